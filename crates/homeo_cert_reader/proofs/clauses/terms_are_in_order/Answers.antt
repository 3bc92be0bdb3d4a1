-- The delta of the term at a place stands behind that of the one before it, or not.
use Rattle.std.proofs.Common.{◌-◌, refl, sym, ap₂, ◌∙◌, arith}
use Rattle.std.proofs.Math.ListN.{get_or-map}
use Rattle.std.proofs.lemmas.List.{length-map}
use Rattle.std.proofs.lemmas.Bool.{false≢true}
use Rattle.homeo_plan.specs.Key.{definitions as plan_definitions}
use Rattle.homeo_plan.specs.declared.forms.Term.{Term}
use Rattle.homeo_plan.specs.Linear.{delta_before, deltas_of}
use Rattle.homeo_cert_reader.proofs.DeltasInOrder.{in_order_goes_on, in_order_stops, in_order_ends}
use Rattle.homeo_cert_reader.proofs.clauses.terms_are_in_order.Goals as goal

pub returns-then-not-is_before : goal.returns-then-not-is_before
unfolding plan_definitions
returns-then-not-is_before c =
    let ts = c.args.terms.now in
    let n = c.loop-place.place in (
      λ t. absurd (false≢true t),
      λ r. absurd (in_order_stops (deltas_of ts) n _ _ c.is_before.result c.loop-place.auto.place
          (omega (arith, length-map ts (λ (t : Term). t.delta), c.loop-place-test.true))
          (c.is_before.ensures ∙ ap₂ delta_before (sym (get_or-map (λ (t : Term). t.delta) ts (n - 1) _)) (sym (get_or-map (λ (t : Term). t.delta) ts n _))) c.if-not-is_before.true r),
    )

pub loop-place-preserved : goal.loop-place-preserved
unfolding plan_definitions
loop-place-preserved c =
    let ts = c.args.terms.now in
    let n = c.loop-place.place in
    in_order_goes_on (deltas_of ts) n _ _ c.is_before.result c.loop-place.auto.place
    (omega (arith, length-map ts (λ (t : Term). t.delta), c.loop-place-test.true))
    (c.is_before.ensures ∙ ap₂ delta_before (sym (get_or-map (λ (t : Term). t.delta) ts (n - 1) _)) (sym (get_or-map (λ (t : Term). t.delta) ts n _))) c.if-not-is_before.false c.loop-place.invariant

pub returns : goal.returns
unfolding plan_definitions
returns c =
    let ts = c.args.terms.now in
    (λ t. in_order_ends (deltas_of ts) c.loop-place.place (omega (arith, length-map ts (λ (t : Term). t.delta), c.loop-place-test.false)) c.loop-place.invariant, λ r. refl)
