-- No delta of either kind.
use Rattle.homeo_form.proofs.FormParts.{pure_is, impure_is}
use Rattle.homeo_form.proofs.form.Form.is_number.Goals as goal

pub returns-then-is_empty : goal.returns-then-is_empty
returns-then-is_empty c =
    pure_is c.args.self.now c.self.inside.constant c.self.inside.terms.items _ c.self.inside.mixed.items _ _ c.self.view_is c.as_slice.ensures.value
    c.as_slice-then-is_empty.ensures.value c.if-is_empty.ensures c.is_empty-then-is_empty.ensures

pub returns-else-is_empty : goal.returns-else-is_empty
returns-else-is_empty c =
    impure_is c.args.self.now c.self.inside.constant c.self.inside.terms.items _ c.self.inside.mixed.items _ c.self.view_is c.as_slice.ensures.value
    c.if-is_empty.ensures c.is_empty.ensures
