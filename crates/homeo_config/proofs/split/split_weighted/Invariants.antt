-- The loop of `split_weighted`.
use Rattle.std.proofs.Common.{◌≡◌, map, take, ℤ}
use Rattle.homeo_syntax.specs.Listed.{Listed}
use Rattle.homeo_plan.specs.Config.{natural_list, split_each}
use Rattle.homeo_plan.specs.PlanView.{plain_clause}
use Rattle.homeo_config.proofs.split.split_weighted.Given as goal

abbrev pub invariant-loop-i : goal.invariant-loop-i
invariant-loop-i l =
    map (λ (b : Listed ℤ). b.items) l.bounds.items ≡
    split_each (map natural_list (take l.i l.shares)) (map plain_clause (take l.i l.clause-items))
