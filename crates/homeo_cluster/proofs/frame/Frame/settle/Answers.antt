use Rattle.std.proofs.Common.{rules, ◌≡◌, List, length, vec_len, sym, subst, ◌∙◌}
use Rattle.homeo_cluster.specs.inner.Cells.{CellValue, cells_of, book_lists, book_state}
use Rattle.homeo_cluster.specs.Passes.{logs_of}
use Rattle.homeo_cluster.specs.inner.Meets.{MetAt, MetShut, MetDone}
use Rattle.homeo_cluster.proofs.Settles.{numbers_again, settled_all}
use Rattle.homeo_cluster.proofs.frame.Frame.settle.Goals as goal

pub meet_clients-requires-clause-numbers : goal.meet_clients-requires-clause-numbers
meet_clients-requires-clause-numbers g c =
    numbers_again g.N.ClusterNaming.workload c.args.cells.now.items _ c.requires.numbers c.meet_sites.ensures.cells

pub meet_passes-requires-clause-numbers : goal.meet_passes-requires-clause-numbers
meet_passes-requires-clause-numbers g c =
    numbers_again g.N.ClusterNaming.workload c.args.cells.now.items _ c.requires.numbers (c.meet_clients.ensures.cells ∙ c.meet_sites.ensures.cells)

pub returns-clause-settled : goal.returns-clause-settled
returns-clause-settled g c =
    let w = g.N.ClusterNaming.workload in
    let cells : List CellValue = c.args.cells.now.items in
    let count : length cells ≡ vec_len c.args.cells.now = search rules in
    let at : MetAt w (length cells) (cells_of w cells) (book_lists w c.args.book.now.held) =
    subst (λ n. MetAt w n (cells_of w cells) (book_lists w c.args.book.now.held)) (sym count) c.meet_sites.ensures.met in
    let shut : MetShut w (length w.clients) (cells_of w cells) (book_lists w c.args.book.now.held) =
    subst (λ cs. MetShut w (length w.clients) cs (book_lists w c.args.book.now.held)) c.meet_sites.ensures.cells
    (subst (λ l. MetShut w (length w.clients) (cells_of w c.meet_sites.new.cells.items) l) c.meet_sites.ensures.book.lists c.meet_clients.ensures.met) in
    let done : MetDone w (length w.clients) (cells_of w cells) (logs_of c.args.passes.now.items) =
    subst (λ cs. MetDone w (length w.clients) cs (logs_of c.args.passes.now.items)) (c.meet_clients.ensures.cells ∙ c.meet_sites.ensures.cells) c.meet_passes.ensures.met in
    settled_all w cells (book_state c.args.book.now) (book_lists w c.args.book.now.held) c.args.passes.now.items c.facts.ensures.facts (count ∙ c.requires.count) c.requires.numbers c.requires.all at shut done
