-- The deltas of the first sites are added.
use Rattle.std.proofs.Common.{◌≡◌, length, take}
use Rattle.homeo_core.specs.Joined.{gathered}
use Rattle.homeo_cluster.specs.inner.Meets.{site_states}
use Rattle.homeo_cluster.specs.inner.Rows.{held_cells}
use Rattle.homeo_cluster.proofs.cleanup.gather_row.Given as goal

abbrev pub invariant-loop-i : goal.invariant-loop-i
invariant-loop-i g l = l.gather ≡ record {
  round = length l.book.closed;
  base = l.book.base;
  sum = gathered l.book.base (take l.i (site_states (held_cells l.cells.items)));
  added = l.i;
}
