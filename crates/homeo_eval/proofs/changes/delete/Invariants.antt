use Rattle.std.proofs.Common.{length}
use Rattle.homeo_syntax.specs.SourceView.{plain_cond}
use Rattle.homeo_context.specs.Contexts.{plain_context}
use Rattle.homeo_eval.specs.inner.States.{state_of}
use Rattle.homeo_eval.specs.inner.Visits.{clears, can_clear}
use Rattle.homeo_eval.proofs.VisitSteps.{Going}
use Rattle.homeo_eval.proofs.changes.delete.Given as goal

abbrev pub invariant-loop-number : goal.invariant-loop-number
invariant-loop-number l =
    Going (plain_context l.context) l.row (plain_cond l.test) can_clear clears l.slots l.number
    (length l.state.database.items) (length l.initial.state.database.items) (state_of l.state) (state_of l.initial.state)
