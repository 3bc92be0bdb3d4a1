-- Without bounds they are even; else they are the given ones.
use Rattle.std.proofs.Common.{rules, ◌≡◌, ◌<◌, ◌≤ℤ◌, [], ◌++◌, ℤ, pos, get_or, sym, ap, ap₂, subst, ◌∙◌, SFits}
use mir.Syntax.{w128}
use Rattle.std.specs.Prelude.{replicate}
use Rattle.std.specs.Result.{OnOk}
use Rattle.std.proofs.lemmas.Int.{to_z-of_z}
use Rattle.std.proofs.lemmas.List.{get_or-map}
use Rattle.homeo_syntax.specs.Listed.{Listed}
use Rattle.homeo_meaning.specs.Small.{IsSmall}
use Rattle.homeo_plan.specs.Config.{split}
use Rattle.homeo_plan.specs.Limit.{form_limit}
use Rattle.homeo_outline.specs.Outlined.{Outlined}
use Rattle.homeo_print.specs.Key.{definitions}
use Rattle.homeo_print.specs.Names.{numbers_text}
use Rattle.homeo_print.specs.inner.Clauses.{slack_in, bounds_or}
use Rattle.homeo_print.proofs.treaties.push_bounds_in.Goals as goal

pub push-requires-clause-not_negative : goal.push-requires-clause-not_negative
unfolding definitions
push-requires-clause-not_negative c =
    let fits : SFits w128 c.slack_in.result = search rules in
    subst (λ z. pos 0 ≤ℤ z) (sym (to_z-of_z w128 c.slack_in.result fits ∙ c.slack_in.ensures))
    (c.requires.bounds.not_negative c.args.clause c.requires.clause)

pub push-requires-clause-small : goal.push-requires-clause-small
unfolding definitions
push-requires-clause-small c =
    let fits : SFits w128 c.slack_in.result = search rules in
    subst (IsSmall form_limit) (sym (to_z-of_z w128 c.slack_in.result fits ∙ c.slack_in.ensures))
    (c.requires.bounds.small c.args.clause c.requires.clause)

pub returns-in-None : goal.returns-in-None
unfolding definitions
returns-in-None c =
    let p = c.args.plan.now in
    let n = c.args.clause in
    let fits : SFits w128 c.slack_in.result = search rules in
    let slack = to_z-of_z w128 c.slack_in.result fits ∙ c.slack_in.ensures in
    let sites = c.sites.ensures ∙ ap (λ (o : Outlined). o.sites) c.deref.ensures in
    let bounds = ap₂ (λ k z. split (replicate k 1) z) sites slack
    ∙ sym (ap (λ given. bounds_or (split (replicate p.outline.value.sites 1) (slack_in p n)) given n) c.in-None.is) in
    subst (λ bs. OnOk c.push.result (c.push.new.out.items ≡ c.args.out.now.items ++ numbers_text bs)) bounds c.push.ensures

pub returns-in-Some : goal.returns-in-Some
unfolding definitions
returns-in-Some c =
    let p = c.args.plan.now in
    let n = c.args.clause in
    let given = c.in-Some.config in
    let own = c.index-as_slice-clause.result in
    let lt = subst (λ m. n < m) (sym (c.requires.bounds.given _ c.in-Some.is)) c.requires.clause in
    let bounds = c.as_slice-in-Some.ensures
    ∙ ap (λ (l : Listed ℤ). l.items) (c.index-as_slice-clause.is ∙ ap (λ ls. get_or ls n own) c.as_slice.ensures)
    ∙ sym (get_or-map (λ (l : Listed ℤ). l.items) given.bounds.items n own [] lt)
    ∙ sym (ap (λ o. bounds_or (split (replicate p.outline.value.sites 1) (slack_in p n)) o n) c.in-Some.is) in
    subst (λ bs. OnOk c.push_bounds.result (c.push_bounds.new.out.items ≡ c.args.out.now.items ++ numbers_text bs)) bounds c.push_bounds.ensures
