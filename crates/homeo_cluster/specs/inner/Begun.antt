-- The lines while a cluster begins: those that are left, and those that a site got.
use Rattle.std.specs.Prelude.{◌≡◌, ℕ, ◌+◌, ◌*◌, ◌<◌, ◌≤◌, [], ◌∷◌, List, length, ℤ, Some, All, slice_get}
use Rattle.homeo_syntax.specs.Source as s
use Rattle.homeo_notes.specs.Lines.{Held, Owns, HasSeen}
use Rattle.homeo_history.specs.Legal.{IsClientAt}
use Rattle.homeo_cluster.specs.Key.{places}
use Rattle.homeo_cluster.specs.Passes.{PassValue}
use Rattle.homeo_cluster.specs.Places.{is_same, earlier, homes, below, kept_line, done_line, shut_line, at_line, bases_line}

-- how many clients of the site come before this client
abbrev pub before : s.Workload → ℕ → ℕ → ℕ
unfolding places
before w site client = earlier (λ other. is_same other site) (homes w) client

-- the first line of a site
abbrev pub first_line : s.Workload → ℕ → ℕ
unfolding places
first_line w site = 2 * length w.clients + 2 * below w site + site

-- the lines from the first to below the end are left, and their lists are empty
abbrev pub AreLeft : ℕ → ℕ → Held → Type 0
AreLeft first end h = (line : ℕ) → first ≤ line → line < end → Owns h line []

-- what is left when that many sites have begun on this base: the book's lines, with the base in the list of bases, and those of
-- the sites to come; and each site that has begun is seen to be at this base
pub record IsRest (w : s.Workload) (base : List ℤ) (sites : ℕ) (h : Held) : Type 0 where
  pub kept : (client : ℕ) → client < length w.clients → Owns h (kept_line w client) []
  pub left : AreLeft (first_line w sites) (bases_line w) h
  pub bases : Owns h (bases_line w) (base ∷ [])
  pub seen : (site : ℕ) → site < sites → HasSeen h (at_line w site) (base ∷ [])

-- what a site's holder has when it begins on this base: it is at the base, has seen that it is the first of all, and has done
-- nothing
pub record IsFirst (w : s.Workload) (base : List ℤ) (site : ℕ) (h : Held) : Type 0 where
  pub at : Owns h (at_line w site) (base ∷ [])
  pub seen : HasSeen h (bases_line w) (base ∷ [])
  pub done : (client : ℕ) → IsClientAt w site client → Owns h (done_line w client) []
  pub shut : (client : ℕ) → IsClientAt w site client → Owns h (shut_line w client) []

-- the passes of the first n clients, in order, with no answers
pub record AreFirst (n : ℕ) (passes : List PassValue) : Type 0 where
  pub count : length passes ≡ n
  pub clients : (i : ℕ) (p : PassValue) → slice_get passes i ≡ Some p → p.client ≡ i
  pub logs : All (λ (p : PassValue). p.log ≡ []) passes
