-- The mixed deltas, and those of the terms.
use Rattle.std.proofs.Common.{◌∙◌, subst, sym}
use Rattle.std.proofs.lemmas.Result.{IfOk-weaker}
use Rattle.homeo_plan.specs.Linear.{AreInOrder}
use Rattle.homeo_form.proofs.FormParts.{put_into, support_is, support_in_order}
use Rattle.homeo_form.proofs.form.Form.support.Goals as goal

pub returns-clause-value : goal.returns-clause-value
returns-clause-value c =
    let from = c.in_ok-deltas.ensures ∙ c.as_slice.ensures.value in
    IfOk-weaker c.in_order.result _ _
    (λ v h. support_is c.args.self.now _ c.self.inside.terms.items _ c.self.inside.mixed.items _ _ v.items c.self.view_is
    (put_into c.in_ok-deltas.deltas.items _ v.items _ h c.in_ok-push_deltas_of.ensures (subst AreInOrder (sym from) c.self.invariant.1))
    c.as_slice-2.ensures.value c.in_ok-deltas.ensures c.as_slice.ensures.value) c.in_order.ensures

pub returns-clause-order : goal.returns-clause-order
returns-clause-order c = IfOk-weaker c.in_order.result _ _ (λ v h. support_in_order _ v.items h) c.in_order.ensures
