-- Sums of small numbers are small.
use Rattle.std.proofs.Common.{ℕ, zero, suc, ◌+◌, ◌*◌, ◌<◌, ◌≤◌, ℤ, ◌+ℤ◌, arith}
use Rattle.std.specs.Int.RustNames.{unsigned_abs}
use Rattle.std.proofs.lemmas.Int.{ints}
use Rattle.homeo_lemmas.proofs.Integers.{abs_add}
use Rattle.homeo_plan.specs.Key.{definitions}
use Rattle.homeo_plan.specs.Split.{sum_from}

-- a part of a sum is as large as the sum and the other part
pub abs_part : (x y : ℤ) → unsigned_abs x ≤ unsigned_abs (x +ℤ y) + unsigned_abs y
abs_part x y = grind (arith, ints)

pub sum_small :
    (a : ℕ) (f : ℕ → ℤ) (j n : ℕ) → ((l : ℕ) → j ≤ l → l < j + n → unsigned_abs (f l) ≤ a) → unsigned_abs (sum_from j n f) ≤ n * a
unfolding definitions
sum_small a f j zero h = omega arith
sum_small a f j (suc n) h =
    let here : unsigned_abs (f j) ≤ a = h j (omega arith) (omega arith) in
    let rest : unsigned_abs (sum_from (suc j) n f) ≤ n * a = sum_small a f (suc j) n (λ l r t. h l (omega arith) (omega arith)) in
    omega (arith, abs_add (f j) (sum_from (suc j) n f))
