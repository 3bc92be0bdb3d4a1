-- The lines of the sites follow each other, after those of the passes and of the book, and before the last.
use Rattle.homeo_cluster.specs.Key.{places}
use Rattle.std.proofs.Common.{◌≡◌, ℕ, zero, suc, ◌+◌, ◌*◌, ◌<◌, ◌≤◌, List, [], ◌∷◌, length, refl, ap, ◌∙◌, arith}
use Rattle.homeo_syntax.specs.Source as s
use Rattle.homeo_plan.specs.Planned.{sites_of}
use Rattle.homeo_history.specs.Legal.{IsClientAt}
use Rattle.homeo_meaning.specs.Acceptance.{IsAccepted}
use Rattle.homeo_site.proofs.Limits.{few_sites}
use Rattle.homeo_meaning.proofs.FewClients.{clients_few}
use Rattle.homeo_cluster.specs.Places.{is_less, is_same, one_for, earlier, homes, below, kept_line, done_line, shut_line, at_line, bases_line, line_count}
use Rattle.homeo_cluster.specs.inner.Begun.{before, first_line}
use Rattle.homeo_cluster.proofs.Apart.{in_block, split_all}
use Rattle.homeo_cluster.proofs.LinesCounted.{earlier_few, homes_length}

none_less : (xs : List ℕ) (n : ℕ) → earlier (λ site. is_less site 0) xs n ≡ 0
none_less [] n = refl
none_less (x ∷ xs) zero = refl
none_less (x ∷ xs) (suc n) = let rest : earlier (λ site. is_less site 0) xs n ≡ 0 = none_less xs n in let one : one_for (is_less x 0) ≡ 0 = not_less x in omega (arith, rest, one)
  where
    not_less : (m : ℕ) → one_for (is_less m 0) ≡ 0
    not_less zero = refl
    not_less (suc m) = refl

pub first_of_all : (w : s.Workload) → first_line w 0 ≡ 2 * length w.clients
unfolding places
first_of_all w = let none : below w 0 ≡ 0 = none_less (homes w) (length (homes w)) in omega (arith, none)

pub first_next : (w : s.Workload) (site : ℕ) → first_line w (site + 1) ≡ at_line w site + 1
unfolding places
first_next w site = let next : site + 1 ≡ suc site = omega arith in ap (λ n. 2 * length w.clients + 2 * below w n + n) next ∙ omega arith

below_few : (w : s.Workload) (site : ℕ) → below w site ≤ length w.clients
unfolding places
below_few w site = let few = earlier_few (λ s. is_less s site) (homes w) (length (homes w)) in let all = homes_length w in omega (arith, few, all)

pub at_after_first : (w : s.Workload) (site : ℕ) → first_line w site ≤ at_line w site
unfolding places
at_after_first w site =
    let all : below w (suc site) ≡ below w site + earlier (λ s. is_same s site) (homes w) (length (homes w)) = split_all site (homes w) (length (homes w)) in omega (arith, all)

pub at_before_bases : (w : s.Workload) (site : ℕ) → site < sites_of w → at_line w site < bases_line w
unfolding places
at_before_bases w site l = let few : below w (suc site) ≤ length w.clients = below_few w (suc site) in omega (arith, few, l)

pub kept_before_first : (w : s.Workload) (site client : ℕ) → client < length w.clients → kept_line w client < first_line w site
unfolding places
kept_before_first w site client l = omega (arith, l)

pub kept_before_bases : (w : s.Workload) (client : ℕ) → client < length w.clients → kept_line w client < bases_line w
unfolding places
kept_before_bases w client l = omega (arith, l)

pub kept_after_asked : (w : s.Workload) (client : ℕ) → length w.clients ≤ kept_line w client
unfolding places
kept_after_asked w client = omega arith

pub first_after_asked : (w : s.Workload) (site : ℕ) → length w.clients ≤ first_line w site
unfolding places
first_after_asked w site = omega arith

pub bases_is_last : (w : s.Workload) → line_count w ≡ bases_line w + 1
unfolding places
bases_is_last w = refl

pub bases_after_asked : (w : s.Workload) → length w.clients ≤ bases_line w
unfolding places
bases_after_asked w = omega arith

pub shut_after_done : (w : s.Workload) (client : ℕ) → shut_line w client ≡ done_line w client + 1
unfolding places
shut_after_done w client = omega arith

-- a client of the site has its lines among the site's
pub record IsAmong (w : s.Workload) (site client : ℕ) : Type 0 where
  pub first : first_line w site ≤ done_line w client
  pub last : shut_line w client < at_line w site

pub among : (w : s.Workload) (site client : ℕ) → IsClientAt w site client → IsAmong w site client
unfolding places
among w site client at =
    let block = in_block w site client at in
    let line : done_line w client ≡ 2 * length w.clients + 2 * (below w site + before w site client) + site = block.line in
    let few : suc (below w site + before w site client) ≤ below w (suc site) = block.before in
    record { first = omega (arith, line); last = omega (arith, line, few) }

-- ---- there are few lines
pub bases_few : (w : s.Workload) → IsAccepted w → bases_line w ≤ 272
unfolding places
bases_few w accepted = let clients = clients_few w accepted in let sites = few_sites w accepted in omega (arith, clients, sites)

pub clients_before_last : (w : s.Workload) (client : ℕ) → client < length w.clients → client < line_count w
clients_before_last w client l = omega (arith, l)

pub bases_before_end : (w : s.Workload) → bases_line w < line_count w
bases_before_end w = let last = bases_is_last w in omega (arith, last)
