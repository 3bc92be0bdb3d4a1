use Rattle.std.proofs.Common.{◌≡◌, map, take}
use Rattle.homeo_syntax.specs.SourceView.{plain_workload}
use Rattle.homeo_plan.specs.Config.{CanShare, natural_list}
use Rattle.homeo_plan.specs.Each.{Each}
use Rattle.homeo_plan.specs.PlanView.{plain_clause}
use Rattle.homeo_plan.specs.Planned.{sites_of, shares_of}
use Rattle.homeo_build.proofs.shares.shares.Given as goal

abbrev pub invariant-loop-clause : goal.invariant-loop-clause
invariant-loop-clause l =
    let w = plain_workload l.c in
    record {
      shares : map natural_list l.lists.items ≡ map (shares_of w) (map plain_clause (take l.clause-index l.clause-items));
      can : Each (λ q. CanShare (sites_of w) q.items) l.lists.items;
    }
