-- They are in order, or it matters not that they are sorted.
use Rattle.std.proofs.Common.{[], refl, ap, ◌∙◌, subst}
use Rattle.std.proofs.lemmas.Result.{IfOk-weaker}
use Rattle.homeo_plan.specs.Linear.{AreInOrder, add_deltas}
use Rattle.homeo_form.proofs.DeltasInOrder.{in_order_kept, permuted_same}
use Rattle.homeo_form.proofs.deltas.in_order.Goals as goal

pub returns-then-are_in_order : goal.returns-then-are_in_order
returns-then-are_in_order c = in_order_kept c.args.deltas.items (subst AreInOrder c.as_slice.ensures.value (c.if-are_in_order.ensures refl))

pub returns : goal.returns
returns c =
    IfOk-weaker c.collected.result _ _
    (λ v h. h ∙ ap (λ l. add_deltas l []) c.as_slice-2.ensures.value
    ∙ permuted_same c.args.deltas.items c.sort_by_key.new.self.items c.sort_by_key.ensures.permutation) c.collected.ensures
