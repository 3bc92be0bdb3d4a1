-- The loop of `push_firsts`.
use Rattle.std.proofs.Common.{◌≡◌, map, take}
use Rattle.homeo_meaning.specs.NumberRules.{distinct_after}
use Rattle.homeo_ground.specs.Sited.{sited}
use Rattle.homeo_ground.proofs.Calls.{sited_at}
use Rattle.homeo_ground.proofs.firsts.push_firsts.Given as goal

abbrev pub invariant-loop-k : goal.invariant-loop-k
invariant-loop-k l = map sited l.firsts.items ≡ distinct_after (map sited l.fn.firsts.items) (map (sited_at l.client) (take l.k l.calls))
