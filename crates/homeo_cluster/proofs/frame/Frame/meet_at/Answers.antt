use Rattle.std.proofs.Common.{rules, ◌≡◌, map, sym, subst}
use Rattle.homeo_notes.specs.Lines.{HasSeen, list_at}
use Rattle.homeo_history.specs.HistoryView.{plain_round}
use Rattle.homeo_cluster.specs.Places.{at_line, bases_line}
use Rattle.homeo_cluster.proofs.Roses.{rose_cell, rose_book}
use Rattle.homeo_cluster.proofs.frame.Frame.meet_at.Goals as goal

pub meet_pair-requires-clause-right : goal.meet_pair-requires-clause-right
meet_pair-requires-clause-right g c =
    let w = g.N.ClusterNaming.workload in
    let site = c.cell.inside.site.state.number in
    let bases : c.bases-bases.result ≡ bases_line w = search rules in
    let line : c.at-line.result ≡ at_line w site = search rules in
    let seen : HasSeen c.book.inside.holder (at_line w site) (list_at c.book.inside.holder (bases_line w)) = c.book.invariant.holds.seen site c.cell.invariant.number in
    subst (λ l. HasSeen c.book.inside.holder l (list_at c.book.inside.holder c.bases-bases.result)) (sym line)
    (subst (λ b. HasSeen c.book.inside.holder (at_line w site) (list_at c.book.inside.holder b)) (sym bases) seen)

pub invariant_of-cell : goal.invariant_of-cell
invariant_of-cell g c =
    rose_cell g.N.ClusterNaming.workload c.cell.inside.site c.cell.inside.holder c.meet_pair.new.left c.cell.invariant c.meet_pair.ensures.left

pub invariant_of-book : goal.invariant_of-book
invariant_of-book g c =
    rose_book g.N.ClusterNaming.workload (map plain_round c.book.inside.closed.items) c.book.inside.base.items c.book.inside.holder c.meet_pair.new.right c.book.invariant c.meet_pair.ensures.right
