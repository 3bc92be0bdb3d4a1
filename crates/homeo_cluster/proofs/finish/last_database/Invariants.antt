-- The deltas of the sites so far are added.
use Rattle.std.proofs.Common.{◌≡◌, take}
use Rattle.homeo_core.specs.Joined.{gathered}
use Rattle.homeo_cluster.specs.inner.Meets.{site_states}
use Rattle.homeo_cluster.proofs.finish.last_database.Given as goal

abbrev pub invariant-loop-cell : goal.invariant-loop-cell
invariant-loop-cell g l = l.gather ≡ record {
  round = l.round;
  base = l.base.items;
  sum = gathered l.base.items (take l.cell-index (site_states l.cells));
  added = l.cell-index;
}
