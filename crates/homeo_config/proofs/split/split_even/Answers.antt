-- Each clause's bounds stand behind those before it.
use Rattle.std.proofs.Common.{ap, ◌∙◌, sym, subst, map, ℤ, pos, ◌≤ℤ◌}
use Rattle.homeo_syntax.specs.Listed.{Listed}
use Rattle.homeo_meaning.specs.Small.{IsSmall}
use Rattle.homeo_plan.specs.Config.{Fits}
use Rattle.homeo_plan.specs.PlanView.{plain_clause}
use Rattle.homeo_plan.proofs.Policy.{even_fits}
use Rattle.homeo_plan.specs.Limit.{form_limit}
use Rattle.homeo_config.proofs.Splitting.{slack_is, even-none, even-more, even-whole}
use Rattle.homeo_config.proofs.split.split_even.Goals as goal

pub loop-clause-init : goal.loop-clause-init
loop-clause-init c = ap (λ (l : Listed (Listed ℤ)). map (λ (b : Listed ℤ). b.items) l.items) c.new-bounds.ensures ∙ even-none c.args.t.now.sites

pub split-requires-clause-not_negative : goal.split-requires-clause-not_negative
split-requires-clause-not_negative c =
    let clauses = c.as_slice-clause-items in
    slack_is c.args.t.now.clauses.items clauses.result.now c.loop-clause.clause-index c.clause-item.result clauses.ensures c.loop-clause-test.true c.clause-item.is c.requires.small (λ z. pos 0 ≤ℤ z) c.requires.not_negative

pub split-requires-clause-small : goal.split-requires-clause-small
split-requires-clause-small c =
    let clauses = c.as_slice-clause-items in
    slack_is c.args.t.now.clauses.items clauses.result.now c.loop-clause.clause-index c.clause-item.result clauses.ensures c.loop-clause-test.true c.clause-item.is c.requires.small (λ z. IsSmall form_limit z) c.requires.small

pub loop-clause-preserved : goal.loop-clause-preserved
loop-clause-preserved c =
    let so_far = c.loop-clause in
    let clauses = c.as_slice-clause-items in
    even-more c.args.t.now.clauses.items clauses.result.now so_far.clause-index c.clause-item.result clauses.ensures c.loop-clause-test.true c.clause-item.is c.requires.small c.args.t.now.sites _ _ _ so_far.bounds.items _ c.in_ok-shares.ensures c.as_slice.ensures.value c.in_ok-split.ensures so_far.invariant (ap (λ l. l.items) c.in_ok-push.ensures.ok)

pub returns-clause-fits : goal.returns-clause-fits
returns-clause-fits c =
    let clauses = c.as_slice-clause-items in
    let t = c.args.t.now in
    let all = even-whole t.sites t.clauses.items clauses.result.now c.loop-clause.clause-index _ clauses.ensures c.loop-clause-test.false c.loop-clause.invariant in
    subst (Fits t.sites (map plain_clause t.clauses.items)) (sym all) (even_fits t.sites (map plain_clause t.clauses.items) c.requires.sites c.requires.not_negative)
