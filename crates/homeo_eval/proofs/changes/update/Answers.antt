use Rattle.std.proofs.Common.{rules, length, ap, ◌∙◌}
use Rattle.homeo_syntax.specs.SourceView.{plain_cond, plain_expr}
use Rattle.homeo_meaning.specs.Key.{definitions}
use Rattle.homeo_meaning.specs.Acceptance.{weight_limit}
use Rattle.homeo_meaning.specs.Context.{bind}
use Rattle.homeo_meaning.specs.Meaning.{done, value}
use Rattle.homeo_eval.specs.inner.CanRun.{expr_fits}
use Rattle.homeo_context.specs.Contexts.{plain_context}
use Rattle.homeo_eval.specs.inner.States.{state_of}
use Rattle.homeo_eval.specs.inner.Visits.{writes_at, value_fits_at}
use Rattle.homeo_eval.proofs.FieldWrites.{own_written, each_zero}
use Rattle.homeo_meaning.proofs.Numbers.{kept_is}
use Rattle.homeo_context.proofs.SlotLists.{slot_of, slot_is}
use Rattle.homeo_eval.proofs.VisitSteps.{begun, at_slot, visited, passed, over}
use Rattle.homeo_eval.proofs.changes.update.Goals as goal
use Rattle.homeo_eval.proofs.changes.update.Goals.{then-is_visited, else-is_visited}

pub loop-number-init : goal.loop-number-init
loop-number-init c =
    begun (plain_context c.args.context.now) c.args.row (plain_cond c.args.test.now) (value_fits_at weight_limit (plain_context c.args.context.now) c.args.row (plain_expr c.args.e.now)) (writes_at (plain_context c.args.context.now) c.args.row c.args.field (plain_expr c.args.e.now)) c.relation-slots.result
    _ _ (state_of c.args.state.now) c.relation-slots.ensures.slots c.requires.fits

pub is_visited-requires : goal.is_visited-requires
is_visited-requires c =
    let at = at_slot (plain_context c.args.context.now) c.args.row (plain_cond c.args.test.now) (value_fits_at weight_limit (plain_context c.args.context.now) c.args.row (plain_expr c.args.e.now)) (writes_at (plain_context c.args.context.now) c.args.row c.args.field (plain_expr c.args.e.now))
    c.relation-slots.result c.loop-number.number c.slot-slot.result (state_of c.loop-number.state)
    c.slot-slot.ensures.number c.slot-slot.ensures.used c.slot-slot.ensures.fields c.loop-number-test.true c.loop-number.invariant.fits in
    at.tested

pub value_at-v-requires : goal.value_at-v-requires
value_at-v-requires c =
    let at = at_slot (plain_context c.args.context.now) c.args.row (plain_cond c.args.test.now) (value_fits_at weight_limit (plain_context c.args.context.now) c.args.row (plain_expr c.args.e.now)) (writes_at (plain_context c.args.context.now) c.args.row c.args.field (plain_expr c.args.e.now))
    c.relation-slots.result c.loop-number.number c.slot-slot.result (state_of c.loop-number.state)
    c.slot-slot.ensures.number c.slot-slot.ensures.used c.slot-slot.ensures.fields c.loop-number-test.true c.loop-number.invariant.fits in
    ap (λ z. expr_fits weight_limit (bind (plain_context c.args.context.now) c.args.row z) (plain_expr c.args.e.now) (state_of c.loop-number.state)) at.slot ∙ at.step.fits

pub write_field-requires : goal.write_field-requires
unfolding definitions
write_field-requires c =
    let slot = slot_is c.relation-slots.result c.loop-number.number c.slot-slot.result c.slot-slot.ensures.number c.slot-slot.ensures.used c.slot-slot.ensures.fields in
    each_zero (plain_context c.args.context.now) c.args.relation c.relation-slots.result c.loop-number.number c.slot-slot.result c.field-place.result c.args.field
    (length c.loop-number.state.database.items) c.relation-slots.ensures.slots c.loop-number-test.true slot c.field-place.ensures (c.loop-number.invariant.places ∙ c.requires.serves.places)

pub loop-number-preserved : goal.loop-number-preserved
unfolding definitions
loop-number-preserved c =
    let x = plain_context c.args.context.now in
    let e = plain_expr c.args.e.now in
    let s = state_of c.loop-number.state in
    let r = slot_of c.relation-slots.result c.loop-number.number in
    let at = at_slot (plain_context c.args.context.now) c.args.row (plain_cond c.args.test.now) (value_fits_at weight_limit (plain_context c.args.context.now) c.args.row (plain_expr c.args.e.now)) (writes_at (plain_context c.args.context.now) c.args.row c.args.field (plain_expr c.args.e.now))
    c.relation-slots.result c.loop-number.number c.slot-slot.result (state_of c.loop-number.state)
    c.slot-slot.ensures.number c.slot-slot.ensures.used c.slot-slot.ensures.fields c.loop-number-test.true c.loop-number.invariant.fits in
    elim c.if-is_visited.branch [
      | then-is_visited w ↦ (
          let kept = kept_is w.value_at-v.result _ (search rules) (w.value_at-v.ensures ∙ ap (λ z. value (bind x c.args.row z) e s) at.slot) in
          let written = own_written c.slot-slot.result c.field-place.result c.args.field r s (value (bind x c.args.row r) e s) _ at.slot c.field-place.ensures kept in
          visited _ _ _ _ _ _ c.loop-number.invariant at c.is_visited.ensures (ap (λ z. length z.database.items) w.state-is ∙ w.write_field.ensures.places)
          w.if-is_visited.true (ap (λ z. done (state_of z)) w.state-is ∙ ap done (w.write_field.ensures.set ∙ written))
          )
      | else-is_visited w ↦ passed _ _ _ _ _ _ c.loop-number.invariant at c.is_visited.ensures (ap (λ z. length z.database.items) w.state-is) w.if-is_visited.false (ap state_of w.state-is)
    ]

pub returns-clause-run : goal.returns-clause-run
returns-clause-run c =
    over (plain_context c.args.context.now) c.args.row (plain_cond c.args.test.now) (value_fits_at weight_limit (plain_context c.args.context.now) c.args.row (plain_expr c.args.e.now)) (writes_at (plain_context c.args.context.now) c.args.row c.args.field (plain_expr c.args.e.now)) c.relation-slots.result
    _ c.loop-number.invariant c.loop-number-test.false c.relation-slots.ensures.slots
