-- Less at the base, equal or more.
use Rattle.std.proofs.Common.{[], ◌∷◌, ◌++◌, map, pos, negsuc, refl, sym, ap, ap₂, ◌∙◌, subst}
use Rattle.homeo_syntax.specs.LowView.{plain_lexpr}
use Rattle.homeo_syntax.specs.declared.phrase.Compare.TheVariants.{Equal}
use Rattle.homeo_meaning.specs.Key.{definitions as meaning_definitions}
use Rattle.homeo_plan.specs.Key.{definitions as plan_definitions}
use Rattle.homeo_meaning.specs.Small.{IsSmall}
use Rattle.homeo_plan.specs.FormSizes.{Numbers}
use Rattle.homeo_plan.specs.Limit.{form_limit}
use Rattle.homeo_plan.specs.Linear.{scale_form, form}
use Rattle.homeo_plan.specs.PlanView.{plain_atom}
use Rattle.homeo_form.specs.Standing.{forms_of}
use Rattle.homeo_linear.proofs.Comparing.{apart_constant, difference_alone, difference_is, less_apart, equal_apart, less_unequal, kept_true, kept_false, one_behind, apart_less, apart_more}
use Rattle.homeo_linear.proofs.comparisons.by_equal.Goals as goal

pub difference-requires-clause-left : goal.difference-requires-clause-left
difference-requires-clause-left c = c.requires.left

pub difference-requires-clause-right : goal.difference-requires-clause-right
difference-requires-clause-right c = c.requires.right

pub difference-requires-clause-negated : goal.difference-requires-clause-negated
difference-requires-clause-negated c = c.requires.there.negated

pub negated-requires : goal.negated-requires
negated-requires c = record { small = subst (Numbers (IsSmall form_limit)) (sym c.in_ok-apart.ensures.there) c.requires.there.apart }

pub less-requires : goal.less-requires
less-requires c =
    let x = form (forms_of c.args.standing.now) (plain_lexpr c.args.left.now) in
    let y = form (forms_of c.args.standing.now) (plain_lexpr c.args.right.now) in
    apart_constant x y c.in_ok-apart.apart c.in_ok-apart.ensures.there c.requires.there

pub less-requires-else-is_equal : goal.less-requires-else-is_equal
less-requires-else-is_equal c =
    let x = form (forms_of c.args.standing.now) (plain_lexpr c.args.left.now) in
    let y = form (forms_of c.args.standing.now) (plain_lexpr c.args.right.now) in
    apart_constant y x c.negated.result (c.negated.ensures ∙ c.in_ok-apart.ensures.back) c.requires.back

pub returns-then-is_less-clause-holds : goal.returns-then-is_less-clause-holds
unfolding meaning_definitions
returns-then-is_less-clause-holds c =
    let x = form (forms_of c.args.standing.now) (plain_lexpr c.args.left.now) in
    let y = form (forms_of c.args.standing.now) (plain_lexpr c.args.right.now) in
    less_unequal x.constant y.constant (c.if-is_less.ensures ∙ less_apart x y c.in_ok-apart.apart c.in_ok-apart.ensures.there)

pub returns-then-is_less-clause-atoms : goal.returns-then-is_less-clause-atoms
unfolding meaning_definitions plan_definitions
returns-then-is_less-clause-atoms c =
    let x = form (forms_of c.args.standing.now) (plain_lexpr c.args.left.now) in
    let y = form (forms_of c.args.standing.now) (plain_lexpr c.args.right.now) in
    let less = c.if-is_less.ensures ∙ less_apart x y c.in_ok-apart.apart c.in_ok-apart.ensures.there in
    one_behind c.args.atoms.now.items _ _ _ _ c.in_ok-push.ensures.items
    (c.less.ensures ∙ difference_is x y c.in_ok-apart.apart _ (pos 1) c.in_ok-apart.ensures.there refl)
    (apart_less x y less ∙ kept_false Equal x y (less_unequal x.constant y.constant less))

pub returns-in_ok-keep_equal-clause-holds : goal.returns-in_ok-keep_equal-clause-holds
unfolding meaning_definitions
returns-in_ok-keep_equal-clause-holds c = c.if-is_equal.ensures ∙ equal_apart _ _ c.in_ok-apart.apart c.in_ok-apart.ensures.there

pub returns-in_ok-keep_equal-clause-atoms : goal.returns-in_ok-keep_equal-clause-atoms
unfolding meaning_definitions plan_definitions
returns-in_ok-keep_equal-clause-atoms c =
    let x = form (forms_of c.args.standing.now) (plain_lexpr c.args.left.now) in
    let y = form (forms_of c.args.standing.now) (plain_lexpr c.args.right.now) in
    let apart = c.in_ok-apart.apart in
    let back = difference_alone y x (scale_form (negsuc 0) apart) c.in_ok-apart.ensures.back in
    c.in_ok-keep_equal.ensures
    ∙ ap (λ l. map plain_atom c.args.atoms.now.items ++ l)
    (ap₂ (λ a b. a ∷ b ∷ []) (difference_alone x y apart c.in_ok-apart.ensures.there) back
    ∙ kept_true Equal x y (c.if-is_equal.ensures ∙ equal_apart x y apart c.in_ok-apart.ensures.there))

pub returns-in_ok-push-2-clause-holds : goal.returns-in_ok-push-2-clause-holds
unfolding meaning_definitions
returns-in_ok-push-2-clause-holds c = c.if-is_equal.ensures ∙ equal_apart _ _ c.in_ok-apart.apart c.in_ok-apart.ensures.there

pub returns-in_ok-push-2-clause-atoms : goal.returns-in_ok-push-2-clause-atoms
unfolding meaning_definitions plan_definitions
returns-in_ok-push-2-clause-atoms c =
    let x = form (forms_of c.args.standing.now) (plain_lexpr c.args.left.now) in
    let y = form (forms_of c.args.standing.now) (plain_lexpr c.args.right.now) in
    one_behind c.args.atoms.now.items _ _ _ _ c.in_ok-push-2.ensures.items
    (c.less-else-is_equal.ensures ∙ difference_is y x c.negated.result _ (pos 1) (c.negated.ensures ∙ c.in_ok-apart.ensures.back) refl)
    (apart_more x y (c.if-is_less.ensures ∙ less_apart x y c.in_ok-apart.apart c.in_ok-apart.ensures.there)
    ∙ kept_false Equal x y (c.if-is_equal.ensures ∙ equal_apart x y c.in_ok-apart.apart c.in_ok-apart.ensures.there))
