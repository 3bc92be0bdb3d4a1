use Rattle.std.proofs.Common.{◌≡◌, map, take, Some}
use Rattle.homeo_nodes.specs.Nodes.{all_of}
use Rattle.homeo_carry.specs.CarryView.{plain_said}
use Rattle.homeo_live.specs.LiveView.{plain_state}
use Rattle.homeo_live.proofs.states.kept_states.Given as goal

abbrev pub invariant-loop-state : goal.invariant-loop-state
invariant-loop-state l = all_of (map plain_state (take l.state-index l.states)) ≡ Some (map plain_said l.all.items)
