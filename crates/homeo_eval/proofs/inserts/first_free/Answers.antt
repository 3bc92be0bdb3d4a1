use Rattle.std.proofs.Common.{◌+◌, Some, cond, sym, ap, ◌∙◌}
use Rattle.homeo_meaning.specs.Context.{first_where}
use Rattle.homeo_meaning.specs.Meaning.{is_free}
use Rattle.homeo_eval.specs.inner.States.{state_of}
use Rattle.homeo_context.proofs.SlotLists.{slot_of, left, slot_is, left_all, first_step, first_none}
use Rattle.homeo_eval.proofs.inserts.first_free.Goals as goal

pub returns-then-is_free-clause-slot : goal.returns-then-is_free-clause-slot
returns-then-is_free-clause-slot c =
    let t = c.args.slots.now in
    let i = c.loop-number.number in
    let s = state_of c.args.state.now in
    let slot = slot_is t i c.slot-slot.result c.slot-slot.ensures.number c.slot-slot.ensures.used c.slot-slot.ensures.fields in
    let free = sym (c.is_free.ensures ∙ ap (is_free s) slot) ∙ c.if-is_free.true in
    ap Some slot
    ∙ sym (first_step t i (is_free s) c.loop-number-test.true ∙ ap (λ b. cond b (Some (slot_of t i)) (first_where (is_free s) (left t (i + 1)))) free)
    ∙ c.loop-number.invariant ∙ ap (first_where (is_free s)) (left_all t)

pub loop-number-preserved : goal.loop-number-preserved
loop-number-preserved c =
    let t = c.args.slots.now in
    let i = c.loop-number.number in
    let s = state_of c.args.state.now in
    let slot = slot_is t i c.slot-slot.result c.slot-slot.ensures.number c.slot-slot.ensures.used c.slot-slot.ensures.fields in
    let used = sym (c.is_free.ensures ∙ ap (is_free s) slot) ∙ c.if-is_free.false in
    sym (first_step t i (is_free s) c.loop-number-test.true ∙ ap (λ b. cond b (Some (slot_of t i)) (first_where (is_free s) (left t (i + 1)))) used) ∙ c.loop-number.invariant

pub returns-clause-slot : goal.returns-clause-slot
returns-clause-slot c =
    let t = c.args.slots.now in
    let s = state_of c.args.state.now in
    sym (first_none t c.loop-number.number (is_free s) c.loop-number-test.false) ∙ c.loop-number.invariant ∙ ap (first_where (is_free s)) (left_all t)
