-- What was set at the place is added, or what is there as a round begins.
use Rattle.std.proofs.Common.{◌≡◌, IfOk, sym, subst}
use Rattle.homeo_meaning.specs.Small.{IsSmall}
use Rattle.homeo_plan.specs.FormSizes.{Numbers}
use Rattle.homeo_plan.specs.Limit.{form_limit}
use Rattle.homeo_plan.specs.Linear.{add_forms}
use Rattle.homeo_form.proofs.standing.Standing.add_at.Goals as goal

pub plus-requires-clause-form_small : goal.plus-requires-clause-form_small
plus-requires-clause-form_small c = subst (Numbers (IsSmall form_limit)) (sym c.in-Some.ensures) c.requires.place_small

pub add_first-requires-clause-place_small : goal.add_first-requires-clause-place_small
add_first-requires-clause-place_small c = subst (Numbers (IsSmall form_limit)) (sym c.in-None.ensures) c.requires.place_small

pub returns-in-Some : goal.returns-in-Some
returns-in-Some c = subst (λ a. IfOk c.plus.result (λ f. f ≡ add_forms a c.args.total)) c.in-Some.ensures c.plus.ensures

pub returns-in-None : goal.returns-in-None
returns-in-None c = subst (λ a. IfOk c.add_first.result (λ f. f ≡ add_forms a c.args.total)) c.in-None.ensures c.add_first.ensures
