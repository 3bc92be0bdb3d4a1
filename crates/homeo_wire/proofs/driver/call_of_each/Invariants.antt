-- The clients so far have made a call.
use Rattle.std.proofs.Common.{◌≡◌, map}
use Rattle.std.specs.List.{range_with_len}
use Rattle.homeo_syntax.specs.SourceView.{plain_workload}
use Rattle.homeo_wire.specs.declared.events.Event.TheVariants.{Call}
use Rattle.homeo_wire.specs.Nodes.{after}
use Rattle.homeo_wire.proofs.driver.call_of_each.Given as goal

abbrev pub invariant-loop-client : goal.invariant-loop-client
invariant-loop-client l = record {
  work : l.wire.work ≡ l.initial.wire.work;
  world : l.wire.world ≡ after (plain_workload l.initial.wire.work) (map (λ client. Call client) (range_with_len 0 l.client)) l.initial.wire.world;
}
