-- Which line of the board carries which list (this project's rule): for each client what it was asked, then for each client what
-- the book has kept, then for each site what it has done and shut for each of its clients and the bases that it has been at, and
-- last the bases of all rounds.
use Rattle.std.specs.Prelude.{◌≡◌, ℕ, zero, suc, ◌+◌, ◌*◌, ◌<◌, Bool, true, false, List, [], ◌∷◌, map, length, slice_get, Some}
use Rattle.homeo_syntax.specs.Source as s
use Rattle.homeo_meaning.specs.Schema.{nat_of}
use Rattle.homeo_plan.specs.Planned.{sites_of}
use Rattle.homeo_cluster.specs.Key.{places}

-- ---- counting
abbrev pub is_less : ℕ → ℕ → Bool
is_less zero zero = false
is_less zero (suc i) = true
is_less (suc s) zero = false
is_less (suc s) (suc i) = is_less s i

abbrev pub is_same : ℕ → ℕ → Bool
is_same zero zero = true
is_same zero (suc i) = false
is_same (suc s) zero = false
is_same (suc s) (suc i) = is_same s i

abbrev pub one_for : Bool → ℕ
one_for true = 1
one_for false = 0

-- how many of the first n pass
abbrev pub earlier : (ℕ → Bool) → List ℕ → ℕ → ℕ
earlier p [] n = 0
earlier p (x ∷ xs) zero = 0
earlier p (x ∷ xs) (suc n) = one_for (p x) + earlier p xs n

abbrev pub nth : List ℕ → ℕ → ℕ
nth [] i = 0
nth (x ∷ xs) zero = x
nth (x ∷ xs) (suc i) = nth xs i

-- ---- the sites of the clients, in the order of the clients
abbrev pub homes : s.Workload → List ℕ
homes w = map (λ (c : s.Client). nat_of c.site.value) w.clients

abbrev pub home_of : s.Workload → ℕ → ℕ
unfolding places
home_of w client = nth (homes w) client

-- how many clients are at sites below this one
abbrev pub below : s.Workload → ℕ → ℕ
unfolding places
below w site = earlier (λ s. is_less s site) (homes w) (length (homes w))

-- how many clients come before this one, by site and then by number
abbrev pub place : s.Workload → ℕ → ℕ
unfolding places
place w client = below w (home_of w client) + earlier (λ s. is_same s (home_of w client)) (homes w) client

-- ---- the lines
abbrev pub asked_line : ℕ → ℕ
asked_line client = client

abbrev pub kept_line : s.Workload → ℕ → ℕ
unfolding places
kept_line w client = length w.clients + client

abbrev pub done_line : s.Workload → ℕ → ℕ
unfolding places
done_line w client = 2 * length w.clients + 2 * place w client + home_of w client

abbrev pub shut_line : s.Workload → ℕ → ℕ
unfolding places
shut_line w client = suc (done_line w client)

abbrev pub at_line : s.Workload → ℕ → ℕ
unfolding places
at_line w site = 2 * length w.clients + 2 * below w (suc site) + site

abbrev pub bases_line : s.Workload → ℕ
unfolding places
bases_line w = 4 * length w.clients + sites_of w

-- four for each client, one for each site, and one more
abbrev pub line_count : s.Workload → ℕ
line_count w = 4 * length w.clients + sites_of w + 1

-- of each client the line of what its site has done for it, and of each site the line of its bases
pub record AreLines (w : s.Workload) (dones ats : List ℕ) : Type 0 where
  pub done : (client : ℕ) → client < length w.clients → slice_get dones client ≡ Some (done_line w client)
  pub at : (site : ℕ) → site < sites_of w → slice_get ats site ≡ Some (at_line w site)
