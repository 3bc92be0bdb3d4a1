-- What was set for the object, or what is there as a round begins.
use Rattle.std.proofs.Common.{[], sym, ap, ◌∙◌, subst}
use Rattle.std.proofs.lemmas.Result.{on_ok_weaker}
use Rattle.homeo_meaning.specs.Small.{IsSmall}
use Rattle.homeo_plan.specs.FormSizes.{Numbers}
use Rattle.homeo_plan.specs.Limit.{form_limit}
use Rattle.homeo_plan.specs.Linear.{add_deltas, support}
use Rattle.homeo_follow.specs.Follow.{gain}
use Rattle.homeo_form.proofs.standing.Standing.push_gain.Goals as goal

pub push_gain-requires : goal.push_gain-requires
push_gain-requires c = subst (Numbers (IsSmall form_limit)) (sym c.in-Some.ensures) c.requires

pub push_gain-requires-in-None : goal.push_gain-requires-in-None
push_gain-requires-in-None c = subst (Numbers (IsSmall form_limit)) (sym (c.in_ok-first-in-None.ensures ∙ c.in-None.ensures)) c.requires

pub returns-in-Some : goal.returns-in-Some
returns-in-Some c =
    on_ok_weaker c.push_gain.result
    (λ h n. h n ∙ ap (λ f. add_deltas (support (gain n c.args.object f)) (add_deltas c.args.deltas.now.items [])) c.in-Some.ensures) c.push_gain.ensures

pub returns-in_ok-first-in-None : goal.returns-in_ok-first-in-None
returns-in_ok-first-in-None c =
    on_ok_weaker c.push_gain-in-None.result
    (λ h n. h n ∙ ap (λ f. add_deltas (support (gain n c.args.object f)) (add_deltas c.args.deltas.now.items []))
    (c.in_ok-first-in-None.ensures ∙ c.in-None.ensures)) c.push_gain-in-None.ensures
