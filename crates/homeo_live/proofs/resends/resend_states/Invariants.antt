use Rattle.std.proofs.Common.{◌≡◌, ◌++◌, map, take}
use Rattle.homeo_nodes.specs.Nodes.{of_states}
use Rattle.homeo_carry.specs.CarryView.{plain_said}
use Rattle.homeo_live.specs.LiveView.{plain_packet}
use Rattle.homeo_live.proofs.resends.resend_states.Given as goal

abbrev pub invariant-loop-site : goal.invariant-loop-site
invariant-loop-site l =
    map plain_packet l.packets.items ≡ map plain_packet l.initial.packets.items ++ of_states l.round 0 (map plain_said (take l.site l.states))
