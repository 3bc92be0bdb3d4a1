use Rattle.std.proofs.Common.{◌<◌, ◌^◌, length, sym, ◌∙◌, subst}
use Rattle.atomic_table.specs.Seated.{TableId}
use Rattle.homeo_notes.specs.Lines.{Held, IsOwner, list_at}
use Rattle.homeo_notes.proofs.KeepsExtend.{adds}
use Rattle.homeo_notes.proofs.Within.{within_added}
use Rattle.homeo_notes.proofs.board.Board.add.Goals as goal

pub fetch_add-requires : goal.fetch_add-requires
fetch_add-requires g c =
    let b = c.args.self.now in
    let line = c.args.line in
    let is = sym c.holder.view_is in
    let owner = subst (λ (h : Held). IsOwner h line) is c.requires.owner in
    let lt = c.holder.invariant.2 line _ owner in (
      c.holder.invariant.0 ∙ sym b.named,
      subst (λ (t : TableId). line < t.words) (sym b.named) lt,
      adds b.table.shared.key b.table.shared.table_id.slots c.holder.inside.seat.id line c.holder.inside.seat.me g.E.EntryNaming.entry _ (subst (λ n. line < n) (sym b.lines) lt) owner
          (subst (λ (h : Held). length (list_at h line) < 2 ^ 63) is c.requires.room),
    )

pub invariant_of-holder : goal.invariant_of-holder
invariant_of-holder g c =
    let e = c.fetch_add.ensures in
    let i = c.holder.invariant in
    let owner = subst (λ (h : Held). IsOwner h c.args.line) (sym c.holder.view_is) c.requires.owner in
    (e.0 ∙ i.0, e.2.1 ∙ i.1, within_added g.N.Naming.board.words c.holder.inside.seat.me.0 c.fetch_add.new.seat.me.0 c.args.line g.E.EntryNaming.entry e.2.0 owner i.2)
