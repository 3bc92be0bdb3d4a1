use Rattle.std.proofs.Common.{rules, ◌≡◌, ◌<◌, List, Some, slice_get, length, length-set, vec_len, refl, subst, ◌∙◌, arith}
use Rattle.std.proofs.lemmas.Option.{slice_get_read}
use Rattle.homeo_cluster.specs.inner.Cells.{CellValue, cell_of, cells_of, book_lists}
use Rattle.homeo_cluster.specs.inner.Meets.{MetAt}
use Rattle.homeo_cluster.proofs.MetMore.{cell_at, cells_set, at_more, same_book}
use Rattle.homeo_cluster.proofs.frame.Frame.meet_sites.Goals as goal

pub loop-i-preserved : goal.loop-i-preserved
loop-i-preserved g c =
    let w = g.N.ClusterNaming.workload in
    let inv = c.loop-i.invariant in
    let i = c.loop-i.i in
    let cells : List CellValue = c.loop-i.cells.items in
    let v : CellValue = c.index_mut.result.now in
    let lt : i < length cells = search rules in
    let at : slice_get cells i ≡ Some v = slice_get_read cells _ i v refl lt c.index_mut.ensures.value in
    record {
      long = length-set cells i c.meet_at.new.cell ∙ inv.long;
      cells = cells_set w cells _ i v c.meet_at.new.cell inv.cells c.index_mut.ensures.value c.meet_at.ensures.cell.cell;
      book = same_book w _ _ _ inv.book c.meet_at.ensures.book;
      met = at_more w _ _ (book_lists w c.loop-i.book.held) i (cell_of w v) inv.met (cell_at w cells _ i v inv.cells at) inv.book.lists c.meet_at.ensures.is.facts c.meet_at.ensures.met;
    }

pub returns-clause-met : goal.returns-clause-met
returns-clause-met g c =
    let w = g.N.ClusterNaming.workload in
    let all : c.loop-i.i ≡ vec_len c.args.cells.now = omega (arith, c.loop-i-test.false, c.loop-i.auto.i-end) in
    subst (λ n. MetAt w n (cells_of w c.args.cells.now.items) (book_lists w c.args.book.now.held)) all c.loop-i.invariant.met
