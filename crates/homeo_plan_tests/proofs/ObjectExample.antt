-- The formula holds at the base, and its numbers and those of the residual are small.
use Rattle.std.proofs.Common.{◌≡◌, ℕ, true, List, [], ◌∷◌, ℤ, pos, negsuc, refl, sym, ap₂, subst}
use Rattle.homeo_syntax.specs.Low.{Cond, Commands}
use Rattle.homeo_meaning.specs.Key.{definitions as meaning_definitions}
use Rattle.homeo_meaning.specs.LowMeaning.{holds, whole}
use Rattle.homeo_meaning.specs.Serial.{values_of}
use Rattle.homeo_meaning.specs.Small.{IsSmall, is_small}
use Rattle.homeo_meaning.proofs.Numbers.{small_is}
use Rattle.homeo_plan.specs.Key.{definitions}
use Rattle.homeo_plan.specs.FormSizes.{Numbers, CanForm, CanSubtract, CanCond, CanFollow}
use Rattle.homeo_plan.specs.Linear.{Linear, Forms, base_forms, constant_form, delta_of, delta_form, form}
use Rattle.homeo_plan.specs.Needs.{IsStraight}
use Rattle.homeo_plan.specs.Limit.{form_limit}
use Rattle.homeo_plan_tests.specs.inner.Object.{object_sum}
use Rattle.homeo_plan_tests.specs.inner.ObjectExample.{base, at_most_five, printed}

pub formula_holds : (c : Cond) (b : List ℤ) → c ≡ at_most_five → b ≡ base → holds c (whole (values_of b)) ≡ true
unfolding meaning_definitions
formula_holds c b e h = ap₂ (λ c b. holds c (whole (values_of b))) e h

-- ---- forms of small numbers
abbrev forms : Forms
forms = base_forms (values_of base)

-- a number and the deltas of both sites, by the same factor
abbrev both : ℤ → ℤ → Linear
both constant factor = record {
  constant = constant;
  terms = record { delta = delta_of 0 0; factor = factor } ∷ record { delta = delta_of 0 1; factor = factor } ∷ [];
  mixed = [];
}

small_constant : (n : ℤ) → is_small form_limit n ≡ true → Numbers (IsSmall form_limit) (constant_form n)
unfolding definitions meaning_definitions
small_constant n h = record { constant = small_is form_limit n h; factors = tt }

small_both : (n f : ℤ) → is_small form_limit n ≡ true → is_small form_limit f ≡ true → Numbers (IsSmall form_limit) (both n f)
unfolding definitions meaning_definitions
small_both n f h k = let factor = small_is form_limit f k in record { constant = small_is form_limit n h; factors = (factor, (factor, tt)) }

small_first :
    (n : ℤ) → is_small form_limit n ≡ true →
    Numbers (IsSmall form_limit) (record { constant = n; terms = record { delta = delta_of 0 0; factor = pos 1 } ∷ []; mixed = [] })
unfolding definitions meaning_definitions
small_first n h = record { constant = small_is form_limit n h; factors = (small_is form_limit (pos 1) refl, tt) }

small_delta : (site : ℕ) → Numbers (IsSmall form_limit) (delta_form (delta_of 0 site))
unfolding definitions meaning_definitions
small_delta site = record { constant = small_is form_limit (pos 0) refl; factors = (small_is form_limit (pos 1) refl, tt) }

object_sum_small : CanForm (IsSmall form_limit) forms object_sum
unfolding definitions meaning_definitions
object_sum_small = (
  small_constant (pos 0) refl,
  small_constant (pos 2) refl,
  (small_constant (pos 2) refl, small_delta 0, (small_first (pos 2) refl, small_delta 1, small_both (pos 2) (pos 1) refl refl)),
)

-- ---- the formula
there : CanSubtract (IsSmall form_limit) (form forms object_sum) (constant_form (pos 5))
unfolding definitions meaning_definitions
there = record {
  negated = small_constant (negsuc 4) refl;
  apart = small_both (negsuc 2) (pos 1) refl refl;
  or_less = small_both (negsuc 2) (pos 1) refl refl;
  more = small_both (negsuc 1) (pos 1) refl refl;
}

back : CanSubtract (IsSmall form_limit) (constant_form (pos 5)) (form forms object_sum)
unfolding definitions meaning_definitions
back = record {
  negated = small_both (negsuc 1) (negsuc 0) refl refl;
  apart = small_both (pos 3) (negsuc 0) refl refl;
  or_less = small_both (pos 3) (negsuc 0) refl refl;
  more = small_both (pos 4) (negsuc 0) refl refl;
}

at_most_five_small : CanCond (IsSmall form_limit) forms at_most_five
unfolding definitions meaning_definitions
at_most_five_small = ((object_sum_small, small_constant (pos 5) refl, there, back), tt)

pub formula_small :
    (c : Cond) (b : List ℤ) → c ≡ at_most_five → b ≡ base → CanCond (IsSmall form_limit) (base_forms (values_of b)) c
formula_small c b e h =
    subst (λ d. CanCond (IsSmall form_limit) (base_forms (values_of b)) d) (sym e)
    (subst (λ d. CanCond (IsSmall form_limit) (base_forms (values_of d)) at_most_five) (sym h) at_most_five_small)

-- ---- the residual
pub residual_straight : (cs : Commands) → cs ≡ printed → IsStraight cs
unfolding definitions
residual_straight cs e = subst IsStraight (sym e) (tt, tt)

printed_small : CanFollow (IsSmall form_limit) forms printed
unfolding definitions meaning_definitions
printed_small = (object_sum_small, tt)

pub residual_small :
    (cs : Commands) (b : List ℤ) → cs ≡ printed → b ≡ base → CanFollow (IsSmall form_limit) (base_forms (values_of b)) cs
residual_small cs b e h =
    subst (λ ds. CanFollow (IsSmall form_limit) (base_forms (values_of b)) ds) (sym e)
    (subst (λ d. CanFollow (IsSmall form_limit) (base_forms (values_of d)) printed) (sym h) printed_small)
