use Rattle.std.proofs.Common.{pos, length, ap, ◌∙◌}
use Rattle.homeo_syntax.specs.SourceView.{plain_cond}
use Rattle.homeo_meaning.specs.Key.{definitions}
use Rattle.homeo_meaning.specs.Context.{Slot}
use Rattle.homeo_meaning.specs.Meaning.{done, set_object}
use Rattle.homeo_context.specs.Contexts.{plain_context}
use Rattle.homeo_eval.specs.inner.States.{state_of}
use Rattle.homeo_eval.specs.inner.Visits.{clears, can_clear}
use Rattle.homeo_eval.proofs.VisitSteps.{begun, at_slot, visited, passed, over}
use Rattle.homeo_eval.proofs.changes.delete.Goals as goal
use Rattle.homeo_eval.proofs.changes.delete.Goals.{then-is_visited, else-is_visited}

pub loop-number-init : goal.loop-number-init
loop-number-init c =
    begun (plain_context c.args.context.now) c.args.row (plain_cond c.args.test.now) can_clear clears c.relation-slots.result
    _ _ (state_of c.args.state.now) c.relation-slots.ensures.slots c.requires

pub is_visited-requires : goal.is_visited-requires
is_visited-requires c =
    let at = at_slot (plain_context c.args.context.now) c.args.row (plain_cond c.args.test.now) can_clear clears
    c.relation-slots.result c.loop-number.number c.slot-slot.result (state_of c.loop-number.state)
    c.slot-slot.ensures.number c.slot-slot.ensures.used c.slot-slot.ensures.fields c.loop-number-test.true c.loop-number.invariant.fits in
    at.tested

pub loop-number-preserved : goal.loop-number-preserved
unfolding definitions
loop-number-preserved c =
    let s = state_of c.loop-number.state in
    let at = at_slot (plain_context c.args.context.now) c.args.row (plain_cond c.args.test.now) can_clear clears
    c.relation-slots.result c.loop-number.number c.slot-slot.result (state_of c.loop-number.state)
    c.slot-slot.ensures.number c.slot-slot.ensures.used c.slot-slot.ensures.fields c.loop-number-test.true c.loop-number.invariant.fits in
    elim c.if-is_visited.branch [
      | then-is_visited w ↦ (
          let cleared = w.set.ensures.set ∙ ap (λ (z : Slot). set_object s z.used (pos 0)) at.slot in
          visited _ _ _ _ _ _ c.loop-number.invariant at c.is_visited.ensures (ap (λ z. length z.database.items) w.state-is ∙ w.set.ensures.places)
          w.if-is_visited.true (ap (λ z. done (state_of z)) w.state-is ∙ ap done cleared)
          )
      | else-is_visited w ↦ passed _ _ _ _ _ _ c.loop-number.invariant at c.is_visited.ensures (ap (λ z. length z.database.items) w.state-is) w.if-is_visited.false (ap state_of w.state-is)
    ]

pub returns-clause-run : goal.returns-clause-run
returns-clause-run c =
    over (plain_context c.args.context.now) c.args.row (plain_cond c.args.test.now) can_clear clears c.relation-slots.result
    _ c.loop-number.invariant c.loop-number-test.false c.relation-slots.ensures.slots
