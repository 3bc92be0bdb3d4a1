-- What was set at the place is taken away, or what is there as a round begins.
use Rattle.std.proofs.Common.{◌≡◌, IfOk, negsuc, sym, ap, ◌∙◌, subst}
use Rattle.homeo_meaning.specs.Small.{IsSmall}
use Rattle.homeo_plan.specs.FormSizes.{Numbers}
use Rattle.homeo_plan.specs.Limit.{form_limit}
use Rattle.homeo_plan.specs.Linear.{add_forms, scale_form}
use Rattle.homeo_form.proofs.FormSteps.{one_is_small}
use Rattle.homeo_form.proofs.standing.Standing.subtract_at.Goals as goal

pub times-requires-clause-factor : goal.times-requires-clause-factor
times-requires-clause-factor c = one_is_small

pub times-requires-clause-small : goal.times-requires-clause-small
times-requires-clause-small c = subst (Numbers (IsSmall form_limit)) (sym c.in-Some.ensures) c.requires.place_small

pub plus-requires-clause-form_small : goal.plus-requires-clause-form_small
plus-requires-clause-form_small c =
    subst (Numbers (IsSmall form_limit)) (sym (c.in_ok-negated-in-Some.ensures ∙ ap (scale_form (negsuc 0)) c.in-Some.ensures)) c.requires.negated_small

pub subtract_first-requires-clause-place_small : goal.subtract_first-requires-clause-place_small
subtract_first-requires-clause-place_small c = subst (Numbers (IsSmall form_limit)) (sym c.in-None.ensures) c.requires.place_small

pub subtract_first-requires-clause-negated_small : goal.subtract_first-requires-clause-negated_small
subtract_first-requires-clause-negated_small c =
    subst (λ f. Numbers (IsSmall form_limit) (scale_form (negsuc 0) f)) (sym c.in-None.ensures) c.requires.negated_small

pub returns-in_ok-negated-in-Some : goal.returns-in_ok-negated-in-Some
returns-in_ok-negated-in-Some c =
    subst (λ a. IfOk c.plus.result (λ f. f ≡ add_forms a c.args.total))
    (c.in_ok-negated-in-Some.ensures ∙ ap (scale_form (negsuc 0)) c.in-Some.ensures) c.plus.ensures

pub returns-in-None : goal.returns-in-None
returns-in-None c =
    subst (λ a. IfOk c.subtract_first.result (λ f. f ≡ add_forms (scale_form (negsuc 0) a) c.args.total)) c.in-None.ensures c.subtract_first.ensures
