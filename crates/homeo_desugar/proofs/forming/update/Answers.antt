-- One slot more is updated.
use Rattle.std.proofs.Common.{false, ℕ, ◌∙◌}
use Rattle.homeo_syntax.specs.Low as L
use Rattle.homeo_syntax.specs.SourceView.{plain_expr, plain_cond}
use Rattle.homeo_syntax.specs.LowView.{plain_lcond, plain_lcommand}
use Rattle.homeo_syntax.proofs.LowViews.{low_Seq}
use Rattle.homeo_meaning.specs.Context.{Slot, bind}
use Rattle.homeo_meaning.specs.LForm.{Lifted, visits, lift_cond}
use Rattle.homeo_desugar.specs.inner.Key.{definitions}
use Rattle.homeo_context.specs.Slots.{plain_slot, slots_of}
use Rattle.homeo_context.specs.Contexts.{plain_context}
use Rattle.homeo_desugar.specs.inner.Visits.{updating}
use Rattle.homeo_desugar.proofs.Forms.{loop_formed, or_skip, field_in}
use Rattle.homeo_desugar.proofs.Makings.{visits_begin, visit_step, visits_done}
use Rattle.homeo_context.proofs.SlotLists.{slot_is}
use Rattle.homeo_desugar.proofs.Rows.{context_bound, bound_fits}
use Rattle.homeo_desugar.proofs.SlotLists.{slot_is_low}
use Rattle.homeo_desugar.proofs.forming.update.Goals as goal

pub loop-number-init : goal.loop-number-init
loop-number-init c = visits_begin _ _ _ _ c.args.slots c.from-out.result

pub lift_visit-requires-clause-low : goal.lift_visit-requires-clause-low
lift_visit-requires-clause-low c = slot_is_low c.args.slots c.loop-number.number c.slot-slot.result c.loop-number-test.true c.requires.slots c.slot-slot.ensures.number c.slot-slot.ensures.used c.slot-slot.ensures.fields

pub write_field-requires-clause-low : goal.write_field-requires-clause-low
write_field-requires-clause-low c = slot_is_low c.args.slots c.loop-number.number c.slot-slot.result c.loop-number-test.true c.requires.slots c.slot-slot.ensures.number c.slot-slot.ensures.used c.slot-slot.ensures.fields

pub write_field-requires-clause-fits : goal.write_field-requires-clause-fits
write_field-requires-clause-fits c =
    bound_fits c.args.context.now c.with-inner.result c.args.row c.slot-slot.result c.with-inner.ensures.declared c.with-inner.ensures.arguments c.with-inner.ensures.rows c.requires.fits (write_field-requires-clause-low c)

pub loop-number-preserved : goal.loop-number-preserved
unfolding definitions
loop-number-preserved c =
    let x = plain_context c.args.context.now in
    let inner = plain_context c.with-inner.result in
    let bound = context_bound c.args.context.now c.with-inner.result c.args.row c.slot-slot.result c.with-inner.ensures.declared c.with-inner.ensures.arguments c.with-inner.ensures.rows in
    let slot = plain_slot c.slot-slot.result in
    let value = plain_expr c.args.value.now in
    let test = plain_lcond c.in_ok-test.test in
    let mid = c.lift_visit.new.out in
    let formed = field_in (bind x c.args.row slot) inner slot c.args.name _ mid.next value (plain_lcommand c.in_ok-write.write) bound c.in_ok-write.ensures in
    let choice = or_skip test (plain_lcommand c.in_ok-write.write) _ c.in_ok-choice.ensures in
    visit_step x c.args.row c.loop-number.number (plain_cond c.args.test.now) (updating x c.args.row c.args.name value) c.args.slots c.slot-slot.result c.from-out.result c.loop-number.out mid c.push.new.self test (plain_lcommand c.in_ok-write.write) _ _ c.loop-number-test.true (slot_is c.args.slots c.loop-number.number c.slot-slot.result c.slot-slot.ensures.number c.slot-slot.ensures.used c.slot-slot.ensures.fields) c.in_ok-test.ensures formed.command (c.in_ok-push.ensures.next ∙ formed.next) choice c.in_ok-push.ensures.pushed c.loop-number.invariant

pub returns : goal.returns
unfolding definitions
returns c =
    let x = plain_context c.args.context.now in
    let tests : Slot → ℕ → Lifted L.Cond = λ slot. lift_cond (bind x c.args.row slot) (plain_cond c.args.test.now) in
    let body = updating x c.args.row c.args.name (plain_expr c.args.value.now) in
    loop_formed c.from-out.result c.loop-number.out c.args.next.now (visits false false tests body (slots_of c.args.slots)) _ c.from-out.ensures.empty c.from-out.ensures.next (visits_done _ _ _ _ c.args.slots c.loop-number.number c.from-out.result c.loop-number.out _ c.loop-number-test.false c.loop-number.invariant) (low_Seq c.loop-number.out.commands)
