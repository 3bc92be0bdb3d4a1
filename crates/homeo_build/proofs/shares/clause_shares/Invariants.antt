use Rattle.std.proofs.Common.{◌≡◌, map, pos}
use Rattle.std.specs.List.{range_with_len}
use Rattle.homeo_syntax.specs.SourceView.{plain_workload}
use Rattle.homeo_plan.specs.PlanView.{plain_clause}
use Rattle.homeo_plan.specs.Planned.{sites_of, planned}
use Rattle.homeo_plan.specs.Shares.{own_share}
use Rattle.homeo_build.proofs.shares.clause_shares.Given as goal

abbrev pub invariant-loop-site : goal.invariant-loop-site
invariant-loop-site l =
    let w = plain_workload l.c in
    l.shares.items ≡ map pos (map (own_share (sites_of w) w.weights (planned w) (plain_clause l.clause)) (range_with_len 0 l.site))
