-- Each clause's bounds stand behind those before it.
use Rattle.std.proofs.Common.{ap, ◌∙◌, sym, subst, map, ℤ, pos, ◌≤ℤ◌, rules}
use Rattle.homeo_syntax.specs.Listed.{Listed}
use Rattle.homeo_meaning.specs.Small.{IsSmall}
use Rattle.homeo_plan.specs.Config.{Fits}
use Rattle.homeo_plan.specs.Each.{Each}
use Rattle.homeo_plan.specs.PlanView.{plain_clause}
use Rattle.homeo_plan.specs.Limit.{form_limit}
use Rattle.homeo_config.proofs.Splitting.{slack_is, slack_as}
use Rattle.homeo_config.proofs.Weighted.{below, can_here, shares_are, some_shares, few_shares, weighted_none, weighted_more, weighted_all, weighted_fits}
use Rattle.homeo_config.proofs.split.split_weighted.Goals as goal

pub loop-i-init : goal.loop-i-init
loop-i-init c = ap (λ (l : Listed (Listed ℤ)). map (λ (b : Listed ℤ). b.items) l.items) c.new-bounds.ensures ∙ weighted_none

pub bounds-shares-i : goal.bounds-shares-i
bounds-shares-i c =
    below c.args.shares.now c.args.t.now.clauses.items c.as_slice-clause-items.result.now c.loop-i.i c.requires.lists c.as_slice-clause-items.ensures c.loop-i-test.true

pub naturals-requires : goal.naturals-requires
naturals-requires c =
    let here = below c.args.shares.now c.args.t.now.clauses.items c.as_slice-clause-items.result.now c.loop-i.i c.requires.lists c.as_slice-clause-items.ensures c.loop-i-test.true in
    let can = can_here c.args.t.now.sites c.args.shares.now c.loop-i.i c.index-shares-i.result c.requires.shares here c.index-shares-i.is in
    record {
      natural = subst (Each (λ n. pos 0 ≤ℤ n)) (sym c.as_slice.ensures) can.natural;
      small = subst (Each (λ n. n ≤ℤ pos 1000)) (sym c.as_slice.ensures) can.small;
    }

pub split-requires-clause-not_negative : goal.split-requires-clause-not_negative
split-requires-clause-not_negative c =
    let clauses = c.as_slice-clause-items in
    slack_is c.args.t.now.clauses.items clauses.result.now c.loop-i.i c.clause-item.result clauses.ensures c.loop-i-test.true c.clause-item.is c.requires.small (λ z. pos 0 ≤ℤ z) c.requires.not_negative

pub split-requires-clause-small : goal.split-requires-clause-small
split-requires-clause-small c =
    let clauses = c.as_slice-clause-items in
    slack_is c.args.t.now.clauses.items clauses.result.now c.loop-i.i c.clause-item.result clauses.ensures c.loop-i-test.true c.clause-item.is c.requires.small (λ z. IsSmall form_limit z) c.requires.small

pub split-requires-clause-some : goal.split-requires-clause-some
split-requires-clause-some c =
    let here = below c.args.shares.now c.args.t.now.clauses.items c.as_slice-clause-items.result.now c.loop-i.i c.requires.lists c.as_slice-clause-items.ensures c.loop-i-test.true in
    some_shares c.args.t.now.sites c.args.shares.now c.loop-i.i c.index-shares-i.result c.requires.shares here c.index-shares-i.is
    c.as_slice.result.now c.in_ok-own.own.items c.as_slice-in-loop-i.result.now c.as_slice.ensures c.in_ok-own.ensures c.as_slice-in-loop-i.ensures.value

pub split-requires-clause-fits : goal.split-requires-clause-fits
split-requires-clause-fits c =
    let here = below c.args.shares.now c.args.t.now.clauses.items c.as_slice-clause-items.result.now c.loop-i.i c.requires.lists c.as_slice-clause-items.ensures c.loop-i-test.true in
    few_shares c.args.t.now.sites c.args.shares.now c.loop-i.i c.index-shares-i.result c.requires.shares here c.index-shares-i.is
    c.as_slice.result.now c.in_ok-own.own.items c.as_slice-in-loop-i.result.now c.as_slice.ensures c.in_ok-own.ensures c.as_slice-in-loop-i.ensures.value (search rules)

pub loop-i-preserved : goal.loop-i-preserved
loop-i-preserved c =
    let here = below c.args.shares.now c.args.t.now.clauses.items c.as_slice-clause-items.result.now c.loop-i.i c.requires.lists c.as_slice-clause-items.ensures c.loop-i-test.true in
    let clauses = c.as_slice-clause-items in
    let are = shares_are c.args.t.now.sites c.args.shares.now c.loop-i.i c.index-shares-i.result c.requires.shares here c.index-shares-i.is
    c.as_slice.result.now c.in_ok-own.own.items c.as_slice-in-loop-i.result.now c.as_slice.ensures c.in_ok-own.ensures c.as_slice-in-loop-i.ensures.value in
    weighted_more c.args.shares.now clauses.result.now c.loop-i.i c.index-shares-i.result c.clause-item.result c.as_slice-in-loop-i.result.now _ _ c.loop-i.bounds.items _
    here c.loop-i-test.true c.index-shares-i.is c.clause-item.is are
    (slack_as c.args.t.now.clauses.items clauses.result.now c.loop-i.i c.clause-item.result clauses.ensures c.loop-i-test.true c.clause-item.is c.requires.small)
    c.in_ok-split.ensures c.loop-i.invariant (ap (λ l. l.items) c.in_ok-push.ensures.ok)

pub returns-clause-bounds : goal.returns-clause-bounds
returns-clause-bounds c =
    let clauses = c.as_slice-clause-items in
    weighted_all c.args.shares.now c.args.t.now.clauses.items clauses.result.now c.loop-i.i _ clauses.ensures c.requires.lists c.loop-i-test.false c.loop-i.invariant

pub returns-clause-fits : goal.returns-clause-fits
returns-clause-fits c =
    let t = c.args.t.now in
    subst (Fits t.sites (map plain_clause t.clauses.items)) (sym (returns-clause-bounds c))
    (weighted_fits t.sites c.args.shares.now (map plain_clause t.clauses.items) c.requires.shares c.requires.lists c.requires.not_negative)
