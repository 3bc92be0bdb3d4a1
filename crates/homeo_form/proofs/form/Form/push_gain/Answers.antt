-- A gain that is a number has none; any other has the form's mixed deltas, and its terms with one of the object less.
use Rattle.std.proofs.Common.{[], refl}
use Rattle.std.proofs.lemmas.Result.{on_ok_weaker}
use Rattle.homeo_plan.specs.Linear.{add_deltas}
use Rattle.homeo_form.proofs.FormParts.{small_terms, terms_in_order, moved_pushed, gain_pushed}
use Rattle.homeo_form.proofs.form.Form.push_gain.Goals as goal

pub with_one_less-requires-clause-order : goal.with_one_less-requires-clause-order
with_one_less-requires-clause-order c = terms_in_order _ _ c.as_slice.ensures.value c.self.invariant.0

pub with_one_less-requires-clause-small : goal.with_one_less-requires-clause-small
with_one_less-requires-clause-small c = small_terms c.args.self.now _ c.self.inside.terms.items _ _ c.self.view_is c.as_slice.ensures.value c.requires

pub returns-then-is_moved : goal.returns-then-is_moved
returns-then-is_moved c = λ n.
    moved_pushed n c.args.object c.args.self.now (add_deltas c.args.deltas.now.items []) (c.if-is_moved.ensures refl)

pub returns : goal.returns
returns c =
    on_ok_weaker c.push_deltas_of.result
    (λ h n. gain_pushed c.args.self.now c.args.object n _ c.self.inside.terms.items _ _ _ c.self.inside.mixed.items _ _ _ _ c.self.view_is
    c.in_ok-terms.ensures c.as_slice.ensures.value c.in_ok-push_all.ensures c.as_slice-2.ensures.value h c.as_slice-3.ensures.value)
    c.push_deltas_of.ensures
