-- What the threads that run a cluster's clients share may be shared.
--     captures-sync        a closure with four captures, where each may be
--     Compiled-sync, Site-send, ..      a search over a whole cluster runs out of steps, so each large part has a lemma
--     Cluster-sync         a cluster, where its naming may be sent and shared
use mathlib.Core.List.{[], ◌∷◌}
use mir.Syntax.{Sym}
use denote.RattleType.{RattleType}
use denote.Struct.Tuple.{TupleAt}
use denote.Param.Send.{IsSend, IsSync, sendable}
use Rattle.std.proofs.Crossing as std
use Rattle.std.proofs.sync.Mutex.TheSendSync as mutex
use Rattle.homeo_syntax.proofs.command.Command.TheLaws.TheKnot as command
use Rattle.homeo_syntax.proofs.list.List.TheSendSync as list
use Rattle.homeo_syntax.proofs.low.LCommand.TheLaws.TheKnot as low_command
use Rattle.homeo_syntax.proofs.low.LExpr.TheLaws.TheKnot as low_expression
use Rattle.homeo_syntax.proofs.low.LTest.TheLaws.TheKnot as low_test
use Rattle.homeo_syntax.proofs.phrase.Expr.TheLaws.TheKnot as phrase
use Rattle.homeo_meaning.specs.contracts.accepted.Accepted as Accepted
use Rattle.homeo_meaning.specs.contracts.findings.Findings as Findings
use Rattle.homeo_outline.specs.contracts.plan.ObjectPlan as ObjectPlan
use Rattle.homeo_context.specs.contracts.declarations.Declarations as Declarations
use Rattle.homeo_ground.specs.contracts.grounding.Grounding as Grounding
use Rattle.homeo_build.specs.contracts.compiled.Compiled as Compiled
use Rattle.homeo_history.specs.contracts.history.Round as Round
use Rattle.homeo_site.specs.contracts.site.Site as Site
use Rattle.homeo_notes.specs.declared.blank.Naming as Naming
use Rattle.homeo_notes.specs.contracts.board.Board as Board
use Rattle.homeo_notes.specs.contracts.holder.Holder as Holder
use Rattle.homeo_notes.proofs.board.Board.TheSendSync as board
use Rattle.homeo_notes.proofs.holder.Holder.TheSendSync as holder
use Rattle.homeo_cluster.specs.declared.naming.ClusterNaming as ClusterNaming
use Rattle.homeo_cluster.specs.contracts.book.Book as Book
use Rattle.homeo_cluster.specs.contracts.cell.SiteCell as SiteCell
use Rattle.homeo_cluster.specs.contracts.cluster.Cluster as Cluster
use Rattle.homeo_cluster.specs.contracts.frame.Frame as Frame

pub captures-sync : (ν : Sym) (A B C D : RattleType) → IsSync A → IsSync B → IsSync C → IsSync D → IsSync (TupleAt ν (A ∷ B ∷ C ∷ D ∷ []))
captures-sync ν A B C D a b c d = search sendable depth 60

Findings-send : IsSend Findings.the_row
Findings-send = search (std.crosses, low_expression.crosses, low_test.crosses, low_command.crosses, list.the_send, sendable) depth 60 fits 20000

Findings-sync : IsSync Findings.the_row
Findings-sync = search (std.crosses, low_expression.crosses, low_test.crosses, low_command.crosses, list.the_sync, sendable) depth 60 fits 20000

Accepted-send : IsSend Accepted.the_row
Accepted-send = let f = Findings-send in search (std.crosses, phrase.crosses, command.crosses, list.the_send, sendable) depth 60 fits 20000

Accepted-sync : IsSync Accepted.the_row
Accepted-sync = let f = Findings-sync in search (std.crosses, phrase.crosses, command.crosses, list.the_sync, sendable) depth 60 fits 20000

Declarations-send : IsSend Declarations.the_row
Declarations-send = search (std.crosses, list.the_send, sendable) depth 60

Declarations-sync : IsSync Declarations.the_row
Declarations-sync = search (std.crosses, list.the_sync, sendable) depth 60

Grounding-send : IsSend Grounding.the_row
Grounding-send = search (std.crosses, list.the_send, sendable) depth 60

Grounding-sync : IsSync Grounding.the_row
Grounding-sync = search (std.crosses, list.the_sync, sendable) depth 60

Compiled-send : IsSend Compiled.the_row
Compiled-send =
    let a = Accepted-send in let b = Grounding-send in let d = Declarations-send in
    search (std.crosses, low_expression.crosses, low_test.crosses, low_command.crosses, list.the_send, sendable) depth 60 fits 20000

Compiled-sync : IsSync Compiled.the_row
Compiled-sync =
    let a = Accepted-sync in let b = Grounding-sync in let d = Declarations-sync in
    search (std.crosses, low_expression.crosses, low_test.crosses, low_command.crosses, list.the_sync, sendable) depth 60 fits 20000

ObjectPlan-send : IsSend ObjectPlan.the_row
ObjectPlan-send = search (std.crosses, low_expression.crosses, low_test.crosses, low_command.crosses, list.the_send, sendable) depth 60 fits 20000

ObjectPlan-sync : IsSync ObjectPlan.the_row
ObjectPlan-sync = search (std.crosses, low_expression.crosses, low_test.crosses, low_command.crosses, list.the_sync, sendable) depth 60 fits 20000

Round-send : IsSend Round.the_row
Round-send = search (std.crosses, list.the_send, sendable) depth 60 fits 20000

Site-send : IsSend Site.the_row
Site-send =
    let a = Compiled-send in let b = Compiled-sync in let c = ObjectPlan-send in let d = ObjectPlan-sync in
    search (std.crosses, low_expression.crosses, list.the_send, sendable) depth 60 fits 20000

module _ (N : RattleType) (n : Naming.Ghosts N.Denot) where
  Board-sync : IsSync N → IsSync (Board.the_field N n).row
  Board-sync y = search (board.the_field_sync, std.crosses, sendable) depth 60

  Holder-send : IsSend N → IsSend (Holder.the_row N n)
  Holder-send s = search (holder.the_send, std.crosses, sendable) depth 60

  module _ (c : ClusterNaming.Ghosts N.Denot) where
    Frame-sync : IsSync N → IsSync (Frame.the_field N n c).row
    Frame-sync y = let a = Board-sync y in let b = Compiled-send in let d = Compiled-sync in search (std.crosses, sendable) depth 60

    Book-send : IsSend N → IsSend (Book.the_row N c n)
    Book-send s = let a = Holder-send s in let b = Round-send in search (list.the_send, std.crosses, sendable) depth 60

    SiteCell-send : IsSend N → IsSend (SiteCell.the_row N c n)
    SiteCell-send s = let a = Holder-send s in let b = Site-send in search (std.crosses, sendable) depth 60

    pub Cluster-sync : IsSend N → IsSync N → IsSync (Cluster.the_row N c n)
    Cluster-sync s y = let a = Frame-sync y in let b = Book-send s in let d = SiteCell-send s in search (mutex.the_sync, std.crosses, sendable) depth 60
