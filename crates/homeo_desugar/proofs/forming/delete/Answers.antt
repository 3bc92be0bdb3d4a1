-- One slot more is cleared.
use Rattle.std.proofs.Common.{false, ℕ, pos, ◌∙◌}
use Rattle.homeo_syntax.specs.Low as L
use Rattle.homeo_syntax.specs.SourceView.{plain_cond}
use Rattle.homeo_syntax.specs.LowView.{plain_lcond}
use Rattle.homeo_syntax.specs.declared.low.SplitName.TheVariants as split
use Rattle.homeo_syntax.proofs.LowViews.{low_Literal, low_Seq, low_Write}
use Rattle.homeo_meaning.specs.Key.{definitions as meaning_definitions}
use Rattle.homeo_meaning.specs.Context.{Slot, bind}
use Rattle.homeo_meaning.specs.LForm.{Lifted, visits, lift_cond, clear}
use Rattle.homeo_desugar.specs.inner.Key.{definitions}
use Rattle.homeo_context.specs.Slots.{slots_of}
use Rattle.homeo_context.specs.Contexts.{plain_context}
use Rattle.homeo_context.proofs.SlotLists.{slot_is}
use Rattle.homeo_desugar.proofs.Forms.{loop_formed, or_skip}
use Rattle.homeo_desugar.proofs.Makings.{visits_begin, visit_step, visits_done}
use Rattle.homeo_desugar.proofs.SlotLists.{slot_is_low}
use Rattle.homeo_desugar.proofs.forming.delete.Goals as goal

pub loop-number-init : goal.loop-number-init
loop-number-init c = visits_begin _ _ _ _ c.args.slots c.from-out.result

pub lift_visit-requires-clause-low : goal.lift_visit-requires-clause-low
lift_visit-requires-clause-low c = slot_is_low c.args.slots c.loop-number.number c.slot-slot.result c.loop-number-test.true c.requires.slots c.slot-slot.ensures.number c.slot-slot.ensures.used c.slot-slot.ensures.fields

pub loop-number-preserved : goal.loop-number-preserved
unfolding definitions meaning_definitions
loop-number-preserved c =
    let test = plain_lcond c.in_ok-test.test in
    let cleared = low_Write _ _ ∙ (λ i. L.Write (split.Whole (c.used.ensures i)) (low_Literal (pos 0) i)) in
    let choice = or_skip test _ _ c.in_ok-choice.ensures in
    visit_step (plain_context c.args.context.now) c.args.row c.loop-number.number (plain_cond c.args.test.now) clear c.args.slots c.slot-slot.result c.from-out.result c.loop-number.out c.lift_visit.new.out c.push.new.self test _ _ _ c.loop-number-test.true (slot_is c.args.slots c.loop-number.number c.slot-slot.result c.slot-slot.ensures.number c.slot-slot.ensures.used c.slot-slot.ensures.fields) c.in_ok-test.ensures cleared c.in_ok-push.ensures.next choice c.in_ok-push.ensures.pushed c.loop-number.invariant

pub returns : goal.returns
unfolding definitions
returns c =
    let tests : Slot → ℕ → Lifted L.Cond = λ slot. lift_cond (bind (plain_context c.args.context.now) c.args.row slot) (plain_cond c.args.test.now) in
    loop_formed c.from-out.result c.loop-number.out c.args.next.now (visits false false tests clear (slots_of c.args.slots)) _ c.from-out.ensures.empty c.from-out.ensures.next (visits_done _ _ _ _ c.args.slots c.loop-number.number c.from-out.result c.loop-number.out _ c.loop-number-test.false c.loop-number.invariant) (low_Seq c.loop-number.out.commands)
