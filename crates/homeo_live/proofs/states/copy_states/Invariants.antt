use Rattle.std.proofs.Common.{◌≡◌, map, take}
use Rattle.homeo_live.specs.LiveView.{plain_state}
use Rattle.homeo_live.proofs.states.copy_states.Given as goal

abbrev pub invariant-loop-state : goal.invariant-loop-state
invariant-loop-state l = map plain_state l.copies.items ≡ map plain_state (take l.state-index l.states)
