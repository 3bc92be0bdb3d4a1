-- The sites so far are in order.
use Rattle.std.proofs.Common.{◌≡◌, length}
use Rattle.homeo_cluster.specs.inner.Meets.{AreNumbered}
use Rattle.homeo_cluster.proofs.finish.open_all.Given as goal

abbrev pub invariant-loop-lock : goal.invariant-loop-lock
invariant-loop-lock g l = AreNumbered l.cells.items × (length l.yielded ≡ length l.cells.items)
