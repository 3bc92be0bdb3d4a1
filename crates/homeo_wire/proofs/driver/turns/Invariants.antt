-- The turns that are left lead from here to where all of them lead.
use Rattle.std.proofs.Common.{◌≡◌, ℕ, ◌+◌}
use Rattle.homeo_syntax.specs.SourceView.{plain_workload}
use Rattle.homeo_wire.specs.Drive.{turns}
use Rattle.homeo_wire.specs.Nodes.{after}
use Rattle.homeo_wire.proofs.driver.turns.Given as goal

abbrev pub invariant-loop : goal.invariant-loop
invariant-loop l = record {
  work : l.wire.work ≡ l.initial.wire.work;
  rest : (n : ℕ) → n + l.counter ≡ l.count → after (plain_workload l.initial.wire.work) (turns (plain_workload l.initial.wire.work) l.wire.world l.draws.state n) l.wire.world
      ≡ after (plain_workload l.initial.wire.work) (turns (plain_workload l.initial.wire.work) l.initial.wire.world l.number l.count) l.initial.wire.world;
}
