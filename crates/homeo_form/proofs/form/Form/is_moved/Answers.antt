-- One term, and no mixed delta.
use Rattle.std.proofs.Common.{refl, sym, ◌∙◌}
use Rattle.homeo_form.proofs.FormParts.{moved_is}
use Rattle.homeo_form.proofs.form.Form.is_moved.Goals as goal

pub returns-then-is_delta : goal.returns-then-is_delta
returns-then-is_delta c = λ h.
    moved_is c.args.self.now c.args.object c.self.inside.constant c.self.inside.terms.items _ c.self.inside.mixed.items _ c.self.view_is c.as_slice.ensures.value
    c.as_slice-then-is_delta.ensures.value (c.if-is_delta.ensures refl) (sym h ∙ c.is_empty.ensures)
