use Rattle.std.proofs.Common.{map}
use Rattle.homeo_history.specs.HistoryView.{plain_round}
use Rattle.homeo_cluster.proofs.Roses.{rose_cell, rose_book}
use Rattle.homeo_cluster.proofs.frame.Frame.meet_shut.Goals as goal

pub invariant_of-cell : goal.invariant_of-cell
invariant_of-cell g c =
    rose_cell g.N.ClusterNaming.workload c.cell.inside.site c.cell.inside.holder c.meet_pair.new.left c.cell.invariant c.meet_pair.ensures.left

pub invariant_of-book : goal.invariant_of-book
invariant_of-book g c =
    rose_book g.N.ClusterNaming.workload (map plain_round c.book.inside.closed.items) c.book.inside.base.items c.book.inside.holder c.meet_pair.new.right c.book.invariant c.meet_pair.ensures.right
