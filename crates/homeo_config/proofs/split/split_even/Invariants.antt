-- The loop of `split_even`.
use Rattle.std.proofs.Common.{◌≡◌, map, take, ℤ}
use Rattle.homeo_syntax.specs.Listed.{Listed}
use Rattle.homeo_plan.specs.Config.{even}
use Rattle.homeo_plan.specs.PlanView.{plain_clause}
use Rattle.homeo_config.proofs.split.split_even.Given as goal

abbrev pub invariant-loop-clause : goal.invariant-loop-clause
invariant-loop-clause l =
    map (λ (b : Listed ℤ). b.items) l.bounds.items ≡ even l.t.sites (map plain_clause (take l.clause-index l.clause-items))
