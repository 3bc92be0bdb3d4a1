-- Sums and products of the numbers of forms fit their type.
use Rattle.std.proofs.Common.{◌≡◌, ℤ, ◌+ℤ◌, ◌*ℤ◌, FitsSigned, SFits, to_z, of_z, ap₂, ◌∙◌, arith}
use mir.Syntax.{w128}
use Rattle.std.specs.Int.RustNames.{unsigned_abs}
use Rattle.std.proofs.lemmas.Int.{fits_signed_from_abs, to_z-of_z, unsigned_abs-mul}
use Rattle.std.proofs.lemmas.Nat.{mul-le}
use Rattle.homeo_lemmas.proofs.Integers.{abs_add}
use Rattle.homeo_meaning.specs.Key.{definitions as meaning_definitions}
use Rattle.homeo_meaning.specs.Small.{IsSmall}
use Rattle.homeo_plan.specs.Limit.{form_limit}
use Rattle.homeo_form.specs.inner.Terms.{sum_limit}

sum_fits : (a b : ℤ) → IsSmall form_limit a → IsSmall sum_limit b → FitsSigned w128 (a +ℤ b)
unfolding meaning_definitions
sum_fits a b h k = fits_signed_from_abs w128 (a +ℤ b) (omega (arith, h, k, abs_add a b))

product_fits : (a b : ℤ) → IsSmall form_limit a → IsSmall form_limit b → FitsSigned w128 (a *ℤ b)
unfolding meaning_definitions
product_fits a b h k =
    fits_signed_from_abs w128 (a *ℤ b) (omega (arith, unsigned_abs-mul a b, mul-le (unsigned_abs a) (unsigned_abs b) form_limit form_limit h k))

pub sum_in : (a b : ℤ) → SFits w128 a → SFits w128 b → IsSmall form_limit a → IsSmall sum_limit b → FitsSigned w128 (to_z w128 (of_z w128 a) +ℤ to_z w128 (of_z w128 b))
sum_in a b fa fb h k = rw (to_z-of_z w128 a fa, to_z-of_z w128 b fb) (sum_fits a b h k)

pub sum_is : (a b : ℤ) → SFits w128 a → SFits w128 b → IsSmall form_limit a → IsSmall sum_limit b → to_z w128 (of_z w128 (to_z w128 (of_z w128 a) +ℤ to_z w128 (of_z w128 b))) ≡ a +ℤ b
sum_is a b fa fb h k =
    rw (to_z-of_z w128 a fa, to_z-of_z w128 b fb) (to_z-of_z w128 (a +ℤ b) (sum_fits a b h k))

pub product_in : (a b : ℤ) → SFits w128 a → SFits w128 b → IsSmall form_limit a → IsSmall form_limit b → FitsSigned w128 (to_z w128 (of_z w128 a) *ℤ to_z w128 (of_z w128 b))
product_in a b fa fb h k = rw (to_z-of_z w128 a fa, to_z-of_z w128 b fb) (product_fits a b h k)

pub product_is : (a b : ℤ) → SFits w128 a → SFits w128 b → IsSmall form_limit a → IsSmall form_limit b → to_z w128 (of_z w128 (to_z w128 (of_z w128 a) *ℤ to_z w128 (of_z w128 b))) ≡ a *ℤ b
product_is a b fa fb h k =
    rw (to_z-of_z w128 a fa, to_z-of_z w128 b fb) (to_z-of_z w128 (a *ℤ b) (product_fits a b h k))

-- a number of the code that was kept as bits
pub kept_is : (r w : ℤ) → SFits w128 r → r ≡ w → to_z w128 (of_z w128 r) ≡ w
kept_is r w f p = to_z-of_z w128 r f ∙ p

pub sum_kept : (r a b : ℤ) → SFits w128 r → SFits w128 a → SFits w128 b → r ≡ to_z w128 (of_z w128 a) +ℤ to_z w128 (of_z w128 b) → to_z w128 (of_z w128 r) ≡ a +ℤ b
sum_kept r a b f fa fb p = to_z-of_z w128 r f ∙ p ∙ ap₂ ◌+ℤ◌ (to_z-of_z w128 a fa) (to_z-of_z w128 b fb)

pub product_kept : (r a b : ℤ) → SFits w128 r → SFits w128 a → SFits w128 b → r ≡ to_z w128 (of_z w128 a) *ℤ to_z w128 (of_z w128 b) → to_z w128 (of_z w128 r) ≡ a *ℤ b
product_kept r a b f fa fb p = to_z-of_z w128 r f ∙ p ∙ ap₂ ◌*ℤ◌ (to_z-of_z w128 a fa) (to_z-of_z w128 b fb)
