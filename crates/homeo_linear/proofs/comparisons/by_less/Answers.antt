-- Less at the base, or not.
use Rattle.std.proofs.Common.{pos, refl, sym, ◌∙◌, subst}
use Rattle.homeo_syntax.specs.LowView.{plain_lexpr}
use Rattle.homeo_syntax.specs.declared.phrase.Compare.TheVariants.{Less}
use Rattle.homeo_meaning.specs.Key.{definitions as meaning_definitions}
use Rattle.homeo_plan.specs.Key.{definitions as plan_definitions}
use Rattle.homeo_meaning.specs.Small.{IsSmall}
use Rattle.homeo_plan.specs.FormSizes.{Numbers}
use Rattle.homeo_plan.specs.Limit.{form_limit}
use Rattle.homeo_plan.specs.Linear.{form}
use Rattle.homeo_form.specs.Standing.{forms_of}
use Rattle.homeo_linear.proofs.Comparing.{apart_constant, difference_alone, difference_is, less_apart, kept_true, kept_false, one_behind}
use Rattle.homeo_linear.proofs.comparisons.by_less.Goals as goal

pub difference-requires-clause-left : goal.difference-requires-clause-left
difference-requires-clause-left c = c.requires.left

pub difference-requires-clause-right : goal.difference-requires-clause-right
difference-requires-clause-right c = c.requires.right

pub difference-requires-clause-negated : goal.difference-requires-clause-negated
difference-requires-clause-negated c = c.requires.there.negated

pub negated-requires : goal.negated-requires
negated-requires c = record { small = subst (Numbers (IsSmall form_limit)) (sym c.in_ok-apart.ensures.there) c.requires.there.apart }

pub less-requires : goal.less-requires
less-requires c =
    let x = form (forms_of c.args.standing.now) (plain_lexpr c.args.left.now) in
    let y = form (forms_of c.args.standing.now) (plain_lexpr c.args.right.now) in
    apart_constant x y c.in_ok-apart.apart c.in_ok-apart.ensures.there c.requires.there

pub returns-in_ok-push-clause-holds : goal.returns-in_ok-push-clause-holds
unfolding meaning_definitions
returns-in_ok-push-clause-holds c = c.if-is_less.ensures ∙ less_apart _ _ c.in_ok-apart.apart c.in_ok-apart.ensures.there

pub returns-in_ok-push-clause-atoms : goal.returns-in_ok-push-clause-atoms
unfolding meaning_definitions plan_definitions
returns-in_ok-push-clause-atoms c =
    let x = form (forms_of c.args.standing.now) (plain_lexpr c.args.left.now) in
    let y = form (forms_of c.args.standing.now) (plain_lexpr c.args.right.now) in
    one_behind c.args.atoms.now.items _ _ _ _ c.in_ok-push.ensures.items (c.less.ensures ∙ difference_is x y c.in_ok-apart.apart _ (pos 1) c.in_ok-apart.ensures.there refl)
    (kept_true Less x y (c.if-is_less.ensures ∙ less_apart x y c.in_ok-apart.apart c.in_ok-apart.ensures.there))

pub returns-in_ok-push-2-clause-holds : goal.returns-in_ok-push-2-clause-holds
unfolding meaning_definitions
returns-in_ok-push-2-clause-holds c = c.if-is_less.ensures ∙ less_apart _ _ c.in_ok-apart.apart c.in_ok-apart.ensures.there

pub returns-in_ok-push-2-clause-atoms : goal.returns-in_ok-push-2-clause-atoms
unfolding meaning_definitions plan_definitions
returns-in_ok-push-2-clause-atoms c =
    let x = form (forms_of c.args.standing.now) (plain_lexpr c.args.left.now) in
    let y = form (forms_of c.args.standing.now) (plain_lexpr c.args.right.now) in
    one_behind c.args.atoms.now.items _ _ _ _ c.in_ok-push-2.ensures.items (c.at_most.ensures ∙ difference_alone y x c.negated.result (c.negated.ensures ∙ c.in_ok-apart.ensures.back))
    (kept_false Less x y (c.if-is_less.ensures ∙ less_apart x y c.in_ok-apart.apart c.in_ok-apart.ensures.there))
