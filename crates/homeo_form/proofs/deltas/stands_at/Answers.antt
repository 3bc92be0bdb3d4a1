-- The delta at the place, or none.
use Rattle.std.proofs.Common.{sym, ◌∙◌}
use Rattle.homeo_form.proofs.Orders.{begins_at, begins_past}
use Rattle.homeo_form.proofs.deltas.stands_at.Goals as goal

pub returns-then-place-deltas : goal.returns-then-place-deltas
returns-then-place-deltas c = c.is_same.ensures ∙ sym (begins_at c.args.delta c.args.deltas.now c.args.place _ c.if-place-deltas.true)

pub returns-else-place-deltas : goal.returns-else-place-deltas
returns-else-place-deltas c = sym (begins_past c.args.delta c.args.deltas.now c.args.place c.if-place-deltas.false)
