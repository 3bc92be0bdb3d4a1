use Rattle.std.proofs.Common.{◌≡◌, ℕ, [], sym, ◌∙◌, subst, ap}
use mathlib.Core.List.{IsPrefix}
use lib.ListN.{get_or}
use Rattle.atomic_table.specs.Table.{Me}
use Rattle.homeo_notes.specs.declared.rule.View.{View}
use Rattle.homeo_notes.specs.Lines.{Held, TellsOf, longest}
use Rattle.homeo_notes.specs.Boards.{held}
use Rattle.homeo_notes.specs.inner.Steps.{noted, told_by}
use Rattle.homeo_notes.proofs.Prefixes.{prefix_trans}
use Rattle.homeo_notes.proofs.Within.{within_same}
use Rattle.homeo_notes.proofs.KeepsTell.{notes, joins, known_prefixes}
use Rattle.homeo_notes.proofs.KeepsLoad.{learns, looks}
use Rattle.homeo_notes.proofs.board.Board.tell.Goals as goal

pub load-requires : goal.load-requires
load-requires g c =
    let b = c.args.self.now in
    (c.from.invariant.0 ∙ sym b.named, b.some, looks b.table.shared.key b.table.shared.table_id.slots c.from.inside.seat.id 0 c.from.inside.seat.me)

pub split_seat-note-requires : goal.split_seat-note-requires
split_seat-note-requires g c =
    let b = c.args.self.now in
    (c.load.ensures.0 ∙ c.from.invariant.0 ∙ sym b.named, b.some, notes b.table.shared.key c.load.new.seat.id c.load.new.seat.me.0)

pub join_seat-requires : goal.join_seat-requires
join_seat-requires g c =
    let b = c.args.self.now in
    let n = c.split_seat-note.ensures in
    let note = n.4 in (
      c.to.invariant.0 ∙ sym b.named,
      n.3 ∙ c.load.ensures.0 ∙ c.from.invariant.0 ∙ sym b.named,
      ap (λ (m : Me ℕ View). m.1) note,
      b.some,
      joins b.table.shared.key c.to.inside.seat.id c.split_seat-note.result.id c.to.inside.seat.me.0 c.split_seat-note.result.me.0 (ap (λ (m : Me ℕ View). m.0.owned) note),
    )

pub load-requires-2 : goal.load-requires-2
load-requires-2 g c =
    let b = c.args.self.now in
    (c.join_seat.ensures.0 ∙ c.to.invariant.0 ∙ sym b.named, b.some, learns b.table.shared.key b.table.shared.table_id.slots c.join_seat.new.seat.id c.join_seat.new.seat.me)

pub returns-clause-prefixes : goal.returns-clause-prefixes
returns-clause-prefixes g c i =
    let from = c.from.inside.seat.me.0 in
    let to = c.to.inside.seat.me.0 in
    let known = known_prefixes from i c.load.ensures.2.1 in
    let note : c.split_seat-note.result.me.0 ≡ noted from = ap (λ (m : Me ℕ View). m.0) c.split_seat-note.ensures.4 ∙ ap (λ (m : Me ℕ View). noted m.0) c.load.ensures.2.0 in
    let told : c.join_seat.new.seat.me.0 ≡ told_by to (noted from) = ap (λ (m : Me ℕ View). m.0) c.join_seat.ensures.2 ∙ ap (told_by to) note in
    let more = subst (λ (v : View). IsPrefix (get_or v.seen i []) (get_or (longest v.seen v.told) i []) × IsPrefix (get_or v.told i []) (get_or (longest v.seen v.told) i [])) told (c.load-2.ensures.2.2 i, c.load-2.ensures.2.3 i) in
    let at_views : TellsOf (held from) (held to) i = (more.0, prefix_trans _ _ _ known.0 more.1, prefix_trans _ _ _ known.1 more.1) in
    subst (λ (h : Held). TellsOf h c.args.to.now i) c.from.view_is (subst (λ (h : Held). TellsOf (held from) h i) c.to.view_is at_views)

pub invariant_of-to : goal.invariant_of-to
invariant_of-to g c =
    let e = c.load-2.ensures in
    let j = c.join_seat.ensures in
    let i = c.to.invariant in
    let same = ap (λ (v : View). v.owned) e.2.0 ∙ ap (λ (k : Me ℕ View). k.0.owned) j.2 in
    (e.0 ∙ (j.0 ∙ i.0), e.2.1 ∙ (ap (λ (k : Me ℕ View). k.1) j.2 ∙ i.1), within_same g.N.Naming.board.words (held c.to.inside.seat.me.0) (held c.load-2.new.seat.me.0) same i.2)
