-- left - right, and then more: the numbers of both are looked at, one after the other.
use Rattle.std.proofs.Common.{rules, arith, ◌≡◌, [], sym, ap, ap₂, ◌∙◌, refl, subst}
use Rattle.homeo_meaning.specs.Key.{definitions as meaning_definitions}
use Rattle.homeo_meaning.specs.Small.{IsSmall}
use Rattle.homeo_meaning.proofs.Numbers.{kept_is}
use Rattle.homeo_plan.specs.Key.{definitions as plan_definitions}
use Rattle.homeo_plan.specs.FormSizes.{Numbers}
use Rattle.homeo_plan.specs.Limit.{form_limit}
use Rattle.homeo_plan.specs.Linear.{Linear, constant_form, add_forms}
use Rattle.homeo_certificate.specs.Key.{definitions}
use Rattle.homeo_certificate.specs.Met.{numbers}
use Rattle.homeo_certificate.specs.Kept.{atom, gap, form_of}
use Rattle.homeo_certificate.specs.Followed.{too_large}
use Rattle.homeo_verify.proofs.LargeNumbers.{large_behind, large_in_front, none_large}
use Rattle.homeo_verify.proofs.MetSmall.{negated}
use Rattle.homeo_verify.proofs.Stopping.{stop_with, stops_as}
use Rattle.homeo_verify.proofs.sizes.difference.Goals as goal
use Rattle.homeo_verify.proofs.sizes.difference.Goals.{In_ok-raised}

pub times-requires-clause-factor : goal.times-requires-clause-factor
unfolding meaning_definitions
times-requires-clause-factor c = omega arith

pub plus-requires-clause-small : goal.plus-requires-clause-small
plus-requires-clause-small c =
    subst (Numbers (IsSmall form_limit)) (sym c.in_ok-negated.ensures) (negated c.args.right.now c.requires.right)

pub returns-in_err-gap-clause-faults : goal.returns-in_err-gap-clause-faults
unfolding definitions
returns-in_err-gap-clause-faults c =
    let a = atom c.args.left.now c.args.right.now c.args.more in
    let is : c.in_ok-apart.apart ≡ gap a = c.in_ok-apart.ensures ∙ ap (add_forms c.args.left.now) c.in_ok-negated.ensures in
    stop_with _ c.from_residual-in_err-gap.result _ c.from_residual-in_err-gap.ensures.1
    (large_in_front (numbers (gap a)) (numbers (form_of a)) _ (stops_as _ _ _ (ap (λ (f : Linear). too_large (numbers f)) is) c.in_err-gap.ensures.faults))

pub plus-requires-2-clause-other_small : goal.plus-requires-2-clause-other_small
unfolding plan_definitions
plus-requires-2-clause-other_small c =
    let is : c.value.result ≡ constant_form c.args.more = c.value.ensures ∙ ap constant_form (kept_is c.args.more _ (search rules) refl) in
    subst (Numbers (IsSmall form_limit)) (sym is) (record { constant = c.requires.more; factors = tt })

-- ---- the two forms
apart_is : (c : In_ok-raised) → c.in_ok-apart.apart ≡ gap (atom c.args.left.now c.args.right.now c.args.more)
unfolding definitions
apart_is c = c.in_ok-apart.ensures ∙ ap (add_forms c.args.left.now) c.in_ok-negated.ensures

whole_is : (c : In_ok-raised) → c.in_ok-raised.raised ≡ form_of (atom c.args.left.now c.args.right.now c.args.more)
unfolding definitions plan_definitions
whole_is c =
    let value : c.value.result ≡ constant_form c.args.more = c.value.ensures ∙ ap constant_form (kept_is c.args.more _ (search rules) refl) in
    c.in_ok-raised.ensures ∙ ap₂ add_forms value (c.in_ok-gap.ensures.form ∙ apart_is c)

pub returns-in_err-form-clause-faults : goal.returns-in_err-form-clause-faults
unfolding definitions plan_definitions
returns-in_err-form-clause-faults c =
    let a = atom c.args.left.now c.args.right.now c.args.more in
    let e = (goal.at.returns-in_err-form-clause-faults c).In_ok-raised in
    let none : too_large (numbers (gap a)) ≡ [] = ap (λ (f : Linear). too_large (numbers f)) (sym (apart_is e)) ∙ c.in_ok-gap.ensures.faults in
    stop_with _ c.from_residual-in_err-form.result _ c.from_residual-in_err-form.ensures.1
    (stops_as _ _ _ (sym (large_behind (numbers (gap a)) (numbers (form_of a)) none))
    (stops_as _ _ _ (ap (λ (f : Linear). too_large (numbers f)) (whole_is e)) c.in_err-form.ensures.faults))

pub returns-clause-faults : goal.returns-clause-faults
unfolding definitions plan_definitions
returns-clause-faults c =
    let a = atom c.args.left.now c.args.right.now c.args.more in
    let e = (goal.at.returns-clause-faults c).In_ok-raised in
    none_large (numbers (gap a)) (numbers (form_of a)) (ap (λ (f : Linear). too_large (numbers f)) (sym (apart_is e)) ∙ c.in_ok-gap.ensures.faults)
    (ap (λ (f : Linear). too_large (numbers f)) (sym (whole_is e)) ∙ c.in_ok-form.ensures.faults)

pub returns-clause-form : goal.returns-clause-form
unfolding definitions plan_definitions
returns-clause-form c =
    c.into_linear.ensures ∙ c.in_ok-form.ensures.form ∙ whole_is (goal.at.returns-clause-form c).In_ok-raised
