-- Sizes of whole numbers.
use Rattle.std.proofs.Common.{◌≡◌, ℤ, pos, ◌+ℤ◌, ◌*ℤ◌, ◌-ℤ◌, neg_ℤ, true, FitsSigned, SFits, w64, to_z, of_z, arith}
use Rattle.std.proofs.Math.IntN.{+ℤ_idl}
use Rattle.std.proofs.lemmas.Int.{to_z-of_z, fits_signed_from_abs}
use Rattle.homeo_meaning.specs.Small.{is_small}
use Rattle.homeo_meaning.proofs.Numbers.{small_is}
use Rattle.homeo_split.specs.CanExec.{run_limit}

pub small_fits : (v : ℤ) → is_small run_limit v ≡ true → FitsSigned w64 v
small_fits v h = let s = small_is run_limit v h in fits_signed_from_abs w64 v (omega arith)

pub ruleset sizes = (small_fits)

-- what the code's numbers are
pub sum_is : (a b : ℤ) → SFits w64 a → SFits w64 b → is_small run_limit (a +ℤ b) ≡ true → to_z w64 (of_z w64 (to_z w64 (of_z w64 a) +ℤ to_z w64 (of_z w64 b))) ≡ a +ℤ b
sum_is a b fa fb h = rw (to_z-of_z w64 a fa, to_z-of_z w64 b fb) (to_z-of_z w64 (a +ℤ b) (small_fits (a +ℤ b) h))

pub product_is : (a b : ℤ) → SFits w64 a → SFits w64 b → is_small run_limit (a *ℤ b) ≡ true → to_z w64 (of_z w64 (to_z w64 (of_z w64 a) *ℤ to_z w64 (of_z w64 b))) ≡ a *ℤ b
product_is a b fa fb h = rw (to_z-of_z w64 a fa, to_z-of_z w64 b fb) (to_z-of_z w64 (a *ℤ b) (small_fits (a *ℤ b) h))

pub negation_is : (a : ℤ) → SFits w64 a → is_small run_limit (neg_ℤ a) ≡ true → to_z w64 (of_z w64 (pos 0 -ℤ to_z w64 (of_z w64 a))) ≡ neg_ℤ a
negation_is a fa h = rw (to_z-of_z w64 a fa, +ℤ_idl (neg_ℤ a)) (to_z-of_z w64 (neg_ℤ a) (small_fits (neg_ℤ a) h))
