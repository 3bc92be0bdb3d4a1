use Rattle.std.proofs.Common.{ℕ, sym, ap, ◌∙◌, subst}
use Rattle.homeo_notes.specs.Lines.{Held, IsOwner, IsWithin}
use Rattle.atomic_table.specs.Table.{Me}
use Rattle.homeo_notes.specs.declared.rule.View.{View}
use Rattle.homeo_notes.specs.Boards.{held}
use Rattle.homeo_notes.proofs.Within.{within_pick}
use Rattle.homeo_notes.proofs.KeepsDeal.{deals_marked}
use Rattle.homeo_notes.proofs.board.Board.deal.Goals as goal

pub split_seat-seat-requires : goal.split_seat-seat-requires
split_seat-seat-requires g c =
    let b = c.args.self.now in (
      c.mark.ensures.same.0 ∙ c.from.invariant.0 ∙ sym b.named,
      b.some,
      deals_marked b.table.shared.key c.mark.new.seat.id c.args.first c.args.end c.from.inside.seat.me.0 c.mark.new.seat.me.0 c.mark.ensures.view
          (λ i l h. subst (λ (k : Held). IsOwner k i) (sym c.from.view_is) (c.requires.owner i l h)),
    )

pub invariant_of-from : goal.invariant_of-from
invariant_of-from g c =
    let e = c.split_seat-seat.ensures in
    let i = c.from.invariant in
    let m = c.mark.ensures in
    let n = g.N.Naming.board.words in
    let marked : IsWithin n (held c.mark.new.seat.me.0) = subst (λ (v : View). IsWithin n (held v)) (sym m.view) i.2 in (
      e.0 ∙ (m.same.0 ∙ i.0),
      ap (λ (k : Me ℕ View). k.1) e.2 ∙ (m.same.2 ∙ i.1),
      subst (λ (k : Me ℕ View). IsWithin n (held k.0)) (sym e.2) (within_pick n (held c.mark.new.seat.me.0) _ marked),
    )

pub invariant_of-result : goal.invariant_of-result
invariant_of-result g c =
    let e = c.split_seat-seat.ensures in
    let i = c.from.invariant in
    let m = c.mark.ensures in
    let n = g.N.Naming.board.words in
    let marked : IsWithin n (held c.mark.new.seat.me.0) = subst (λ (v : View). IsWithin n (held v)) (sym m.view) i.2 in (
      e.3 ∙ (m.same.0 ∙ i.0),
      ap (λ (k : Me ℕ View). k.1) e.4,
      subst (λ (k : Me ℕ View). IsWithin n (held k.0)) (sym e.4) (within_pick n (held c.mark.new.seat.me.0) _ marked),
    )
