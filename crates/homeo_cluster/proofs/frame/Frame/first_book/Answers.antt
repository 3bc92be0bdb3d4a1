use Rattle.std.proofs.Common.{map}
use Rattle.homeo_history.specs.HistoryView.{plain_round}
use Rattle.homeo_assembly.proofs.ClosingEvents.{book_start}
use Rattle.homeo_cluster.proofs.Begins.{first_book_is}
use Rattle.homeo_cluster.proofs.frame.Frame.first_book.Goals as goal

pub invariant_of-result : goal.invariant_of-result
invariant_of-result g c =
    first_book_is book_start g.N.ClusterNaming.workload (map plain_round c.new.result.items) c.args.base.items c.args.rest
    c.accepted.ensures (λ j. map plain_round (c.new.ensures j).items) c.requires.base c.requires.rest
