-- Small numbers negated.
use Rattle.homeo_meaning.specs.Key.{definitions as meaning_definitions}
use Rattle.std.proofs.Common.{◌≡◌, ℤ, ◌-ℤ◌, pos, neg_ℤ, FitsSigned, SFits, to_z, of_z, arith}
use mir.Syntax.{w128}
use Rattle.std.proofs.Math.IntN.{+ℤ_idl}
use Rattle.std.proofs.lemmas.Int.{fits_signed_from_abs, to_z-of_z}
use Rattle.homeo_lemmas.proofs.Integers.{abs_neg}
use Rattle.homeo_meaning.specs.Small.{IsSmall}
use Rattle.homeo_plan.specs.Limit.{form_limit}

negation_fits : (a : ℤ) → IsSmall form_limit a → FitsSigned w128 (neg_ℤ a)
unfolding meaning_definitions
negation_fits a h = fits_signed_from_abs w128 (neg_ℤ a) (omega (arith, h, abs_neg a))

pub negation_in : (a : ℤ) → SFits w128 a → IsSmall form_limit a → FitsSigned w128 (pos 0 -ℤ to_z w128 (of_z w128 a))
negation_in a fa h = rw (to_z-of_z w128 a fa, +ℤ_idl (neg_ℤ a)) (negation_fits a h)

pub negation_is : (a : ℤ) → SFits w128 a → IsSmall form_limit a → to_z w128 (of_z w128 (pos 0 -ℤ to_z w128 (of_z w128 a))) ≡ neg_ℤ a
negation_is a fa h =
    rw (to_z-of_z w128 a fa, +ℤ_idl (neg_ℤ a)) (to_z-of_z w128 (neg_ℤ a) (negation_fits a h))

-- a small number that the code passes on
pub small_back : (a : ℤ) → IsSmall form_limit a → to_z w128 (of_z w128 a) ≡ a
unfolding meaning_definitions
small_back a h = to_z-of_z w128 a (fits_signed_from_abs w128 a (omega (arith, h)))
