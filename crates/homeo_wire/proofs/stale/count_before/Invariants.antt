-- All packets so far are of earlier rounds.
use Rattle.std.proofs.Common.{◌≡◌, ℕ, ◌<◌, Some}
use Rattle.std.specs.Prelude.{slice_get}
use Rattle.homeo_wire.specs.declared.events.Packet.{Packet}
use Rattle.homeo_wire.specs.Nodes.{round_of}
use Rattle.homeo_wire.specs.WireView.{plain_packet}
use Rattle.homeo_wire.proofs.stale.count_before.Given as goal

abbrev pub invariant-loop-i : goal.invariant-loop-i
invariant-loop-i l = (k : ℕ) (p : Packet) → k < l.i → slice_get l.packets k ≡ Some p → round_of (plain_packet p) < l.round
