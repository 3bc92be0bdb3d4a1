use Rattle.std.proofs.Common.{ℕ, ap, ◌∙◌, sym, subst}
use Rattle.atomic_table.specs.Table.{Me}
use Rattle.atomic_table.specs.Seated.{TableId}
use Rattle.homeo_notes.specs.declared.rule.View.{View}
use Rattle.homeo_notes.specs.Lines.{IsWithin, owner_of_all}
use Rattle.homeo_notes.specs.Boards.{held}
use Rattle.homeo_notes.proofs.Within.{within_all}
use Rattle.homeo_notes.proofs.board.Board.begin.Goals as goal

pub invariant_of-result : goal.invariant_of-result
invariant_of-result g c =
    let i = c.blank.invariant in
    let named = c.blank.view_is ∙ c.requires.named in
    let n = c.blank.inside.table.shared.table_id.words in (
      i.seated ∙ named,
      ap (λ (m : Me ℕ View). m.1) i.owner,
      subst (λ (v : View). IsWithin g.N.Naming.board.words (held v)) (sym (ap (λ (m : Me ℕ View). m.0) i.owner)) (subst (λ (t : TableId). IsWithin t.words (owner_of_all n)) named (within_all n)),
    )
