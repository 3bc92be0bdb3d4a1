-- The sites so far are in order.
use Rattle.std.proofs.Common.{◌≡◌, length}
use Rattle.homeo_cluster.specs.inner.Meets.{AreNumbered}
use Rattle.homeo_cluster.specs.inner.Rows.{held_cells}
use Rattle.homeo_cluster.proofs.cluster.Cluster.lock_all.Given as goal

abbrev pub invariant-loop-lock : goal.invariant-loop-lock
invariant-loop-lock g l = AreNumbered (held_cells l.cells.items) × (l.lock-index ≡ length l.cells.items)
