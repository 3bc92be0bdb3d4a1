use Rattle.std.proofs.Common.{subst, ◌∙◌}
use Rattle.homeo_meaning.specs.Acceptance.{IsAccepted}
use Rattle.homeo_syntax.specs.SourceView.{plain_workload}
use Rattle.homeo_syntax.specs.declared.workload.Workload.{Workload}
use Rattle.homeo_plan.specs.PlanView.{plain_clause}
use Rattle.homeo_plan.specs.Planned.{sites_of, planned}
use Rattle.homeo_build.proofs.SiteShares.{weights_natural, weights_small, weight_back, taken, left_out}
use Rattle.homeo_build.proofs.shares.own_share.Goals as goal

pub weight_of-requires : goal.weight_of-requires
weight_of-requires c =
    let same = c.workload-then-takes_part.ensures.value ∙ c.workload.ensures in
    let accepted = subst (λ (v : Workload). IsAccepted (plain_workload v)) c.workload.ensures c.workload-then-takes_part.ensures.accepted in
    record {
      natural = weights_natural c.args.c.now c.workload-then-takes_part.result.now accepted same c.as_slice.result.now c.as_slice.ensures;
      small = weights_small c.args.c.now c.workload-then-takes_part.result.now accepted same c.as_slice.result.now c.as_slice.ensures;
    }

pub returns-then-takes_part : goal.returns-then-takes_part
returns-then-takes_part c =
    let w = plain_workload c.args.c.now in
    let same = c.workload-then-takes_part.ensures.value ∙ c.workload.ensures in
    let accepted = subst (λ (v : Workload). IsAccepted (plain_workload v)) c.workload.ensures c.workload-then-takes_part.ensures.accepted in
    let small = weights_small c.args.c.now c.workload-then-takes_part.result.now accepted same c.as_slice.result.now c.as_slice.ensures in
    weight_back c.as_slice.result.now c.args.site c.weight_of.result small c.weight_of.ensures
    ∙ taken c.args.c.now c.workload-then-takes_part.result.now accepted same c.as_slice.result.now c.as_slice.ensures (sites_of w) (planned w) (plain_clause c.args.clause.now) c.args.site
    c.weight_of.result c.if-takes_part.ensures c.weight_of.ensures

pub returns-else-takes_part : goal.returns-else-takes_part
returns-else-takes_part c =
    let w = plain_workload c.args.c.now in
    left_out (sites_of w) w.weights (planned w) (plain_clause c.args.clause.now) c.args.site c.if-takes_part.ensures
