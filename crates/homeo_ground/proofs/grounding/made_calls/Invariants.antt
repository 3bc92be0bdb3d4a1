-- The loop of `made_calls`.
use Rattle.std.proofs.Common.{◌≡◌, map, take}
use Rattle.homeo_meaning.specs.Ground.{plain_ground}
use Rattle.homeo_ground.specs.Sited.{sited}
use Rattle.homeo_ground.specs.inner.Grounds.{ground_by}
use Rattle.homeo_ground.proofs.grounding.made_calls.Given as goal

abbrev pub invariant-loop-call : goal.invariant-loop-call
invariant-loop-call l = map plain_ground l.made.items ≡ map (ground_by l.numbering.transactions) (map sited (take l.call-index l.calls))
