-- The packets so far have come, and there are as many packets at least as there were.
use Rattle.std.proofs.Common.{◌≡◌, ◌≤◌, length, map}
use Rattle.std.specs.List.{range_with_len}
use Rattle.homeo_syntax.specs.SourceView.{plain_workload}
use Rattle.homeo_wire.specs.declared.events.Event.TheVariants.{Deliver}
use Rattle.homeo_wire.specs.Nodes.{after}
use Rattle.homeo_wire.proofs.driver.deliver_all.Given as goal

abbrev pub invariant-loop-packet : goal.invariant-loop-packet
invariant-loop-packet l = record {
  work : l.wire.work ≡ l.initial.wire.work;
  world : l.wire.world ≡ after (plain_workload l.initial.wire.work) (map (λ packet. Deliver l.site packet) (range_with_len 0 l.packet)) l.initial.wire.world;
  many : length l.initial.wire.world.packets ≤ length l.wire.world.packets;
}
