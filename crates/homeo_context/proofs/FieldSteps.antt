-- The field of a name, looked for from the first field on.
use Rattle.std.proofs.Common.{◌≡◌, ℕ, suc, ◌+◌, ◌<◌, ◌≤◌, ◌==◌, true, false, cond, ℤ, pos, List, ◌∷◌, map, drop, get_or, length, sym, ap, ◌∙◌, arith, add-one, drop_of_length-le}
use Rattle.std.proofs.Math.Seq.{drop-cons}
use Rattle.std.proofs.lemmas.Bool.Decides.{nat_tests}
use Rattle.homeo_syntax.specs.declared.workload.RangeDecl.{RangeDecl}
use Rattle.homeo_meaning.specs.Key.{definitions}
use Rattle.homeo_meaning.specs.Schema.{declared_range}
use Rattle.homeo_meaning.specs.Context.{Spot, spot_from}

abbrev spot_with : ℕ → ℤ → ℤ → Spot
spot_with k lo hi = record { place = k; lo = lo; hi = hi }

abbrev rest_from : List RangeDecl → ℕ → ℕ → Spot
rest_from fs i n = spot_from i (map declared_range (drop i fs)) n

next : (fs : List RangeDecl) (i n : ℕ) (none : RangeDecl) → i < length fs → rest_from fs i n ≡ cond ((get_or fs i none).name.name == n) (spot_with i (get_or fs i none).lo.value (get_or fs i none).hi.value) (rest_from fs (i + 1) n)
unfolding definitions
next fs i n none h =
    let front : drop i fs ≡ get_or fs i none ∷ drop (i + 1) fs = rw add-one (drop-cons fs i none h) in
    let number : suc i ≡ i + 1 = omega arith in
    ap (λ l. spot_from i (map declared_range l) n) front
    ∙ ap (λ k. cond ((get_or fs i none).name.name == n) (spot_with i (get_or fs i none).lo.value (get_or fs i none).hi.value) (spot_from k (map declared_range (drop (i + 1) fs)) n)) number

pub found : (fs : List RangeDecl) (i n : ℕ) (none : RangeDecl) (lo hi : ℤ) → i < length fs → (get_or fs i none).name.name ≡ n → lo ≡ (get_or fs i none).lo.value → hi ≡ (get_or fs i none).hi.value → record { place = i; lo = lo; hi = hi } ≡ spot_from i (map declared_range (drop i fs)) n
found fs i n none lo hi h same p q =
    let e : ((get_or fs i none).name.name == n) ≡ true = grind (arith, nat_tests) in
    (λ j. spot_with i (p j) (q j)) ∙ sym (next fs i n none h ∙ ap (λ b. cond b (spot_with i (get_or fs i none).lo.value (get_or fs i none).hi.value) (rest_from fs (i + 1) n)) e)

pub passed : (fs : List RangeDecl) (i n : ℕ) (none : RangeDecl) → i < length fs → ((get_or fs i none).name.name ≡ n → ⊥) → spot_from (i + 1) (map declared_range (drop (i + 1) fs)) n ≡ spot_from i (map declared_range (drop i fs)) n
passed fs i n none h other =
    let e : ((get_or fs i none).name.name == n) ≡ false = grind (arith, nat_tests) in
    sym (next fs i n none h ∙ ap (λ b. cond b (spot_with i (get_or fs i none).lo.value (get_or fs i none).hi.value) (rest_from fs (i + 1) n)) e)

pub ended : (fs : List RangeDecl) (i n : ℕ) → length fs ≤ i → i ≤ length fs → record { place = length fs; lo = pos 0; hi = pos 0 } ≡ spot_from i (map declared_range (drop i fs)) n
unfolding definitions
ended fs i n h k =
    let same : length fs ≡ i = omega arith in
    ap (λ m. spot_with m (pos 0) (pos 0)) same ∙ sym (ap (λ l. spot_from i (map declared_range l) n) (drop_of_length-le fs h))
