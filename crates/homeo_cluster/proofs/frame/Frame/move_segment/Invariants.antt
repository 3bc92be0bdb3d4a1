-- So many entries have gone over.
use Rattle.homeo_cluster.specs.inner.Moves.{IsMoving}
use Rattle.homeo_cluster.proofs.frame.Frame.move_segment.Given as goal

abbrev pub invariant-loop-entry : goal.invariant-loop-entry
invariant-loop-entry g l = IsMoving g.N.ClusterNaming.workload l.site.state l.entry-index l.initial.holder l.initial.book l.holder l.book
