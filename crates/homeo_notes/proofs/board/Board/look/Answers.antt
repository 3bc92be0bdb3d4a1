use Rattle.std.proofs.Common.{◌<◌, sym, ◌∙◌, subst}
use Rattle.atomic_table.specs.Seated.{TableId}
use Rattle.homeo_notes.specs.Lines.{Held, IsOwner}
use Rattle.homeo_notes.proofs.KeepsLoad.{looks}
use Rattle.homeo_notes.proofs.board.Board.look.Goals as goal

pub load-requires : goal.load-requires
load-requires g c =
    let b = c.args.self.now in
    let lt = c.holder.invariant.2 c.args.line _ (subst (λ (h : Held). IsOwner h c.args.line) (sym c.holder.view_is) c.requires.owner) in (
      c.holder.invariant.0 ∙ sym b.named,
      subst (λ (t : TableId). c.args.line < t.words) (sym b.named) lt,
      looks b.table.shared.key b.table.shared.table_id.slots c.holder.inside.seat.id c.args.line c.holder.inside.seat.me,
    )
