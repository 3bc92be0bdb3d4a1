use Rattle.std.proofs.Common.{◌≡◌, ◌<◌, List, Some, slice_get, length, length-set, ap, sym, subst, ◌∙◌, arith}
use Rattle.homeo_plan.specs.Planned.{sites_of}
use Rattle.homeo_history.specs.Legal.{IsClientAt}
use Rattle.homeo_cluster.specs.inner.Cells.{CellValue, cell_of, cells_of, book_lists}
use Rattle.homeo_cluster.specs.inner.Meets.{MetShut}
use Rattle.homeo_cluster.specs.inner.Rows.{held_cells}
use Rattle.homeo_cluster.proofs.MetMore.{cell_at, shut_more, same_book}
use Rattle.homeo_cluster.proofs.Rows.{held_at, held_set, cells_put}
use Rattle.homeo_cluster.proofs.frame.Frame.meet_row_clients.Goals as goal

pub meet_shut-requires-clause-home : goal.meet_shut-requires-clause-home
meet_shut-requires-clause-home g c =
    let w = g.N.ClusterNaming.workload in
    let inv = c.loop-client.invariant in
    let gs = c.loop-client.cells.items in
    let vs : List CellValue = held_cells gs in
    let v : CellValue = c.deref_mut.result.now in
    let bound : c.home-home.result < sites_of w = c.home-home.ensures.bound in
    let lt : c.home-home.result < length gs = omega (arith, bound, inv.long) in
    let at : slice_get vs c.home-home.result ≡ Some v = held_at gs c.home-home.result c.index_mut.result.now v lt c.index_mut.ensures.value c.deref_mut.ensures.value in
    let number : v.site.state.number ≡ c.home-home.result = c.requires.numbers c.home-home.result (cell_of w v) (cell_at w vs _ c.home-home.result v inv.cells at) in
    subst (λ n. IsClientAt w n c.loop-client.client) (sym number) c.home-home.ensures.at

pub loop-client-preserved : goal.loop-client-preserved
loop-client-preserved g c =
    let w = g.N.ClusterNaming.workload in
    let inv = c.loop-client.invariant in
    let n = c.loop-client.client in
    let i = c.home-home.result in
    let gs = c.loop-client.cells.items in
    let vs : List CellValue = held_cells gs in
    let v : CellValue = c.deref_mut.result.now in
    let bound : i < sites_of w = c.home-home.ensures.bound in
    let lt : i < length gs = omega (arith, bound, inv.long) in
    let at : slice_get vs i ≡ Some v = held_at gs i c.index_mut.result.now v lt c.index_mut.ensures.value c.deref_mut.ensures.value in
    record {
      long = length-set gs i _ ∙ inv.long;
      cells = ap (cells_of w) (held_set gs i _) ∙ cells_put w vs _ i v c.meet_shut.new.cell inv.cells at c.meet_shut.ensures.cell.cell;
      book = same_book w _ _ _ inv.book c.meet_shut.ensures.book;
      met = shut_more w _ _ (book_lists w c.loop-client.book.held) n i (cell_of w v) inv.met c.home-home.ensures.at (cell_at w vs _ i v inv.cells at) inv.book.lists c.meet_shut.ensures.met;
    }

pub returns-clause-met : goal.returns-clause-met
returns-clause-met g c =
    let w = g.N.ClusterNaming.workload in
    let all : c.loop-client.client ≡ length w.clients = omega (arith, c.loop-client-test.false, c.loop-client.auto.client-end) in
    subst (λ n. MetShut w n (cells_of w (held_cells c.args.cells.now.items)) (book_lists w c.args.book.now.held)) all c.loop-client.invariant.met
