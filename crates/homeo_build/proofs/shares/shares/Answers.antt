use Rattle.std.proofs.Common.{map, ap, ◌∙◌}
use Rattle.std.proofs.lemmas.List.{take_all}
use Rattle.homeo_syntax.specs.SourceView.{plain_workload}
use Rattle.homeo_plan.specs.Config.{natural_list}
use Rattle.homeo_plan.specs.PlanView.{plain_clause}
use Rattle.homeo_plan.specs.Planned.{sites_of, shares_of}
use Rattle.homeo_build.proofs.SiteShares.{lists_more, can_more, can_none}
use Rattle.homeo_build.proofs.shares.shares.Goals as goal

pub loop-clause-init : goal.loop-clause-init
loop-clause-init c = record {
  shares = ap (map natural_list) c.new-lists.ensures.items;
  can = can_none (sites_of (plain_workload c.args.c.now)) c.new-lists.result.items c.new-lists.ensures.items;
}

pub loop-clause-preserved : goal.loop-clause-preserved
loop-clause-preserved c =
    let w = plain_workload c.args.c.now in
    let l = c.in_ok-clause_shares.field-0 in
    record {
      shares = lists_more w c.as_slice-clause-items.result.now c.loop-clause.clause-index c.clause-item.result l c.loop-clause.lists.items _ c.loop-clause-test.true c.clause-item.is
          c.in_ok-clause_shares.ensures.shares c.loop-clause.invariant.shares c.in_ok-push.ensures.items;
      can = can_more (sites_of w) c.loop-clause.lists.items _ l c.loop-clause.invariant.can c.in_ok-clause_shares.ensures.can c.in_ok-push.ensures.items;
    }

pub returns-clause-shares : goal.returns-clause-shares
returns-clause-shares c =
    let w = plain_workload c.args.c.now in
    c.loop-clause.invariant.shares
    ∙ ap (λ l. map (shares_of w) (map plain_clause l)) (take_all c.loop-clause.clause-index c.as_slice-clause-items.result.now c.loop-clause-test.false ∙ c.as_slice-clause-items.ensures)

pub returns-clause-can : goal.returns-clause-can
returns-clause-can c = c.loop-clause.invariant.can
