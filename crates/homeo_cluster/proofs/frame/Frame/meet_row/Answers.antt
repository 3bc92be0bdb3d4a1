use Rattle.std.proofs.Common.{rules, ◌≡◌, List, length, vec_len, sym, subst, ◌∙◌}
use Rattle.homeo_core.specs.Joined.{BookState}
use Rattle.homeo_assembly.specs.Events.{InHand}
use Rattle.homeo_assembly.specs.Facts.{Cell, BookLists}
use Rattle.homeo_cluster.specs.inner.Cells.{CellValue, cells_of, book_lists, book_state}
use Rattle.homeo_cluster.specs.inner.Meets.{MetAt, MetShut}
use Rattle.homeo_cluster.specs.inner.Rows.{held_cells}
use Rattle.homeo_cluster.proofs.MetMore.{same_book}
use Rattle.homeo_cluster.proofs.Rows.{held_long, numbers_still, hand_all}
use Rattle.homeo_cluster.proofs.Settles.{numbers_again, states_again}
use Rattle.homeo_cluster.proofs.frame.Frame.meet_row.Goals as goal

pub meet_row_clients-requires-clause-numbers : goal.meet_row_clients-requires-clause-numbers
meet_row_clients-requires-clause-numbers g c =
    numbers_again g.N.ClusterNaming.workload (held_cells c.args.cells.now.items) _ c.requires.numbers c.meet_row_bases.ensures.cells

pub returns-clause-numbers : goal.returns-clause-numbers
returns-clause-numbers g c =
    numbers_still g.N.ClusterNaming.workload (held_cells c.args.cells.now.items) _ (c.meet_row_clients.ensures.cells ∙ c.meet_row_bases.ensures.cells) c.requires.numbers

pub returns-clause-states : goal.returns-clause-states
returns-clause-states g c =
    states_again g.N.ClusterNaming.workload (held_cells c.args.cells.now.items) _ (c.meet_row_clients.ensures.cells ∙ c.meet_row_bases.ensures.cells)

abbrev Hand : Type 0
Hand = BookState × BookLists × List Cell

pub returns-clause-met : goal.returns-clause-met
returns-clause-met g c =
    let w = g.N.ClusterNaming.workload in
    let vs : List CellValue = held_cells c.args.cells.now.items in
    let long : length c.args.cells.now.items ≡ vec_len c.args.cells.now = search rules in
    let count : length vs ≡ vec_len c.args.cells.now = held_long c.args.cells.now.items ∙ long in
    let cells = c.meet_row_clients.ensures.cells ∙ c.meet_row_bases.ensures.cells in
    let book = same_book w _ _ _ c.meet_row_bases.ensures.book c.meet_row_clients.ensures.book in
    let at : MetAt w (length vs) (cells_of w vs) (book_lists w c.args.book.now.held) =
    subst (λ n. MetAt w n (cells_of w vs) (book_lists w c.args.book.now.held)) (sym count) c.meet_row_bases.ensures.met in
    let shut : MetShut w (length w.clients) (cells_of w vs) (book_lists w c.args.book.now.held) =
    subst (λ cs. MetShut w (length w.clients) cs (book_lists w c.args.book.now.held)) c.meet_row_bases.ensures.cells
    (subst (λ l. MetShut w (length w.clients) (cells_of w (held_cells c.meet_row_bases.new.cells.items)) l) c.meet_row_bases.ensures.book.lists c.meet_row_clients.ensures.met) in
    subst (λ (x : Hand). InHand w x.0 x.1 x.2)
    (λ i. (record { closed = sym book.closed i; base = sym book.base i }, sym book.lists i, sym cells i))
    (hand_all w vs (book_state c.args.book.now) (book_lists w c.args.book.now.held) c.facts.ensures.facts (count ∙ c.requires.count) c.requires.numbers at shut)
