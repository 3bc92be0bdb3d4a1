-- Those so far were told.
use Rattle.std.proofs.Common.{◌≡◌, ◌++◌, take}
use Rattle.std.specs.List.{flat_map}
use Rattle.homeo_live.specs.LiveView.{plain_packet}
use Rattle.homeo_process.specs.Driven.{packet_to}
use Rattle.homeo_process.proofs.voice.Voice.tell_each.Given as goal

abbrev pub invariant-loop-id : goal.invariant-loop-id
invariant-loop-id l = l.out.items ≡ l.initial.out.items ++ flat_map (packet_to l.self (plain_packet l.packet)) (take l.id-index l.ids)
