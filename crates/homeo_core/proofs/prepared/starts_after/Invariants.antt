-- The starts so far are those of the first sites.
use Rattle.std.proofs.Common.{◌≡◌, true, map, replicate}
use Rattle.homeo_core.specs.Starts.{AreStarts, waits}
use Rattle.homeo_core.proofs.prepared.starts_after.Given as goal

abbrev pub invariant-loop-site : goal.invariant-loop-site
invariant-loop-site l = record {
  starts : AreStarts l.c.value l.round l.plan.value.base.items l.starts.items;
  waiting : map waits l.starts.items ≡ replicate l.site true;
}
