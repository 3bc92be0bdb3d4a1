-- The loop of `first_calls`.
use Rattle.std.proofs.Common.{◌≡◌, [], map, take}
use Rattle.std.specs.List.{flat_map}
use Rattle.homeo_syntax.specs.SourceView.{plain_client}
use Rattle.homeo_meaning.specs.GlobalNames.{sited_calls_of}
use Rattle.homeo_meaning.specs.NumberRules.{distinct_after}
use Rattle.homeo_ground.specs.Sited.{sited}
use Rattle.homeo_ground.proofs.firsts.first_calls.Given as goal

abbrev pub invariant-loop-i : goal.invariant-loop-i
invariant-loop-i l = map sited l.firsts.items ≡ distinct_after [] (flat_map sited_calls_of (map plain_client (take l.i l.clients)))
