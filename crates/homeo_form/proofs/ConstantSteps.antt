-- The constant of a form with one part more.
use Rattle.std.proofs.Common.{◌≡◌, Bool, true, false, cond, ℤ, ◌+ℤ◌, ◌*ℤ◌, refl}
use Rattle.homeo_plan.specs.Key.{definitions as plan_definitions}
use Rattle.homeo_plan.specs.Linear.{Linear, add_forms, scale_form, mix_forms, multiply_forms, is_pure}
use Rattle.homeo_plan.proofs.WholeNumbers.{mul_comm_z}

abbrev pub behind : ℤ → ℤ → ℤ
behind m n = n +ℤ m

pub sum_constant : (a b : Linear) → (add_forms b a).constant ≡ behind a.constant b.constant
unfolding plan_definitions
sum_constant a b = refl

pub product_constant : (a b : Linear) → (multiply_forms a b).constant ≡ a.constant *ℤ b.constant
unfolding plan_definitions
product_constant a b = go (is_pure a) (is_pure b)
  where
    go : (v w : Bool) → (cond v (scale_form a.constant b) (cond w (scale_form b.constant a) (mix_forms a b))).constant ≡ a.constant *ℤ b.constant
    go true w = refl
    go false true = mul_comm_z b.constant a.constant
    go false false = refl
