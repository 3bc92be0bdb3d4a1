-- The deliveries to the sites that are left lead from here to where all of them lead, and what was stale is so still.
use Rattle.std.proofs.Common.{◌≡◌, ℕ, ◌+◌}
use Rattle.homeo_syntax.specs.SourceView.{plain_workload}
use Rattle.homeo_plan.specs.Planned.{sites_of}
use Rattle.homeo_wire.specs.Drive.{to_sites}
use Rattle.homeo_wire.specs.inner.Stale.{AreStale}
use Rattle.homeo_wire.specs.Nodes.{after}
use Rattle.homeo_wire.proofs.driver.sweep.Given as goal

abbrev pub invariant-loop-site : goal.invariant-loop-site
invariant-loop-site l = record {
  work : l.wire.work ≡ l.initial.wire.work;
  stale : AreStale l.wire.world l.stale;
  rest : (n : ℕ) → n + l.site ≡ sites_of (plain_workload l.initial.wire.work) → after (plain_workload l.initial.wire.work) (to_sites (plain_workload l.initial.wire.work) l.wire.world l.site n) l.wire.world
      ≡ after (plain_workload l.initial.wire.work) (to_sites (plain_workload l.initial.wire.work) l.initial.wire.world 0 (sites_of (plain_workload l.initial.wire.work))) l.initial.wire.world;
}
