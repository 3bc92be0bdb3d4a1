use Rattle.std.proofs.Common.{rules, ◌≡◌, ◌<◌, List, Some, slice_get, length, length-set, vec_len, ap, subst, ◌∙◌, arith}
use Rattle.homeo_cluster.specs.inner.Cells.{CellValue, cell_of, cells_of, book_lists}
use Rattle.homeo_cluster.specs.inner.Meets.{MetAt}
use Rattle.homeo_cluster.specs.inner.Rows.{held_cells}
use Rattle.homeo_cluster.proofs.MetMore.{cell_at, at_more, same_book}
use Rattle.homeo_cluster.proofs.Rows.{held_at, held_set, cells_put}
use Rattle.homeo_cluster.proofs.frame.Frame.meet_row_bases.Goals as goal

pub loop-i-preserved : goal.loop-i-preserved
loop-i-preserved g c =
    let w = g.N.ClusterNaming.workload in
    let inv = c.loop-i.invariant in
    let i = c.loop-i.i in
    let gs = c.loop-i.cells.items in
    let vs : List CellValue = held_cells gs in
    let v : CellValue = c.deref_mut.result.now in
    let lt : i < length gs = search rules in
    let at : slice_get vs i ≡ Some v = held_at gs i c.index_mut.result.now v lt c.index_mut.ensures.value c.deref_mut.ensures.value in
    record {
      long = length-set gs i _ ∙ inv.long;
      cells = ap (cells_of w) (held_set gs i _) ∙ cells_put w vs _ i v c.meet_at.new.cell inv.cells at c.meet_at.ensures.cell.cell;
      book = same_book w _ _ _ inv.book c.meet_at.ensures.book;
      met = at_more w _ _ (book_lists w c.loop-i.book.held) i (cell_of w v) inv.met (cell_at w vs _ i v inv.cells at) inv.book.lists c.meet_at.ensures.is.facts c.meet_at.ensures.met;
    }

pub returns-clause-met : goal.returns-clause-met
returns-clause-met g c =
    let w = g.N.ClusterNaming.workload in
    let all : c.loop-i.i ≡ vec_len c.args.cells.now = omega (arith, c.loop-i-test.false, c.loop-i.auto.i-end) in
    subst (λ n. MetAt w n (cells_of w (held_cells c.args.cells.now.items)) (book_lists w c.args.book.now.held)) all c.loop-i.invariant.met
