-- What the terms and the deltas are together.
use Rattle.homeo_form.proofs.FormParts.{sum_in_order}
use Rattle.homeo_form.proofs.form.Total.into_form.Goals as goal

pub invariant_of-result : goal.invariant_of-result
invariant_of-result c = sum_in_order c.self.inside.terms.items _ c.self.inside.mixed.items _ c.in_ok-added_up.ensures c.in_ok-in_order.ensures
