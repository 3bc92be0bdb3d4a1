-- The first of a list that passes.
use Rattle.std.proofs.Common.{◌≡◌, ℕ, zero, suc, ◌+◌, ◌<◌, ◌≤◌, Bool, true, false, if◌then◌else◌, List, [], ◌∷◌, map, length, drop, get_or, Option, Some, None, refl, sym, ap, ◌∙◌, arith}
use Rattle.std.proofs.lemmas.List.{length-map}
use Rattle.homeo_lemmas.proofs.Lists.{drop_past}
use Rattle.homeo_lines.specs.Named.{first_from}
use Rattle.homeo_lines.proofs.Lists.{next}

-- the test of the next item decides
pub first_here : {A V : Type 0} (test : A → Bool) (see : V → A) (vs : List V) (i k : ℕ) (v : V) → i < length vs → v ≡ get_or vs i v → test (see v) ≡ true → first_from test k (map see (drop i vs)) ≡ Some k
first_here test see vs i k v l e h =
    ap (λ us. first_from test k (map see us)) (next vs i v l e) ∙ ap (λ b. if b then Some k else first_from test (suc k) (map see (drop (suc i) vs))) h

pub first_later : {A V : Type 0} (test : A → Bool) (see : V → A) (vs : List V) (i k : ℕ) (v : V) → i < length vs → v ≡ get_or vs i v → test (see v) ≡ false → first_from test k (map see (drop i vs)) ≡ first_from test (suc k) (map see (drop (suc i) vs))
first_later test see vs i k v l e h =
    ap (λ us. first_from test k (map see us)) (next vs i v l e) ∙ ap (λ b. if b then Some k else first_from test (suc k) (map see (drop (suc i) vs))) h

pub first_never : {A V : Type 0} (test : A → Bool) (see : V → A) (vs : List V) (i k : ℕ) → length vs ≤ i → first_from test k (map see (drop i vs)) ≡ None
first_never test see vs i k l = ap (λ us. first_from test k (map see us)) (drop_past vs i l)

pub ruleset first_steps = (first_here, first_later, first_never, length-map)
