use Rattle.std.proofs.Common.{◌≡◌, List, sym, ap, subst, ◌∙◌}
use Rattle.std.proofs.lemmas.Result.{IfOk-weaker}
use Rattle.homeo_syntax.specs.Source as s
use Rattle.homeo_meaning.specs.Initial.{initial}
use Rattle.homeo_core.specs.Joined.{AreJoined, history_of}
use Rattle.homeo_assembly.specs.Laws.{IsAssembled}
use Rattle.homeo_cluster.specs.inner.Cells.{CellValue, BookValue, book_state}
use Rattle.homeo_cluster.specs.Passes.{logs_of}
use Rattle.homeo_cluster.specs.inner.Meets.{SameBook, site_states}
use Rattle.homeo_cluster.proofs.Settles.{states_again, joined_of, assembled_of}
use Rattle.homeo_cluster.proofs.cluster.Cluster.finish.Goals as goal

same_book_state : (w : s.Workload) (b b' : BookValue) → SameBook w b b' → book_state b' ≡ book_state b
same_book_state w b b' same = λ i. record { closed = same.closed i; base = same.base i }

pub history-requires : goal.history-requires
history-requires g c =
    let w = g.N.ClusterNaming.workload in
    let old : List CellValue = c.in_ok-cells.cells.items in
    let states = states_again w old c.settle.new.cells.items c.settle.ensures.cells in
    let book = same_book_state w c.into_inner-book.result c.settle.new.book c.settle.ensures.book in
    let joined = joined_of w old _ _ _ c.settle.ensures.settled in
    record { joined = subst (λ b. AreJoined w (initial w) b (site_states c.settle.new.cells.items)) (sym book) (subst (AreJoined w (initial w) (book_state c.into_inner-book.result)) (sym states) joined) }

pub returns-clause-assembled : goal.returns-clause-assembled
returns-clause-assembled g c =
    let w = g.N.ClusterNaming.workload in
    let old : List CellValue = c.in_ok-cells.cells.items in
    let states = states_again w old c.settle.new.cells.items c.settle.ensures.cells in
    let book = same_book_state w c.into_inner-book.result c.settle.new.book c.settle.ensures.book in
    let assembled = assembled_of w old _ _ (logs_of c.args.passes.items) c.accepted.ensures c.settle.ensures.settled in
    IfOk-weaker c.history.result _ _ (λ h is. subst (IsAssembled w (logs_of c.args.passes.items)) (sym (is ∙ ap (λ b. history_of b (site_states c.settle.new.cells.items)) book ∙ ap (history_of (book_state c.into_inner-book.result)) states)) assembled) c.history.ensures.history
