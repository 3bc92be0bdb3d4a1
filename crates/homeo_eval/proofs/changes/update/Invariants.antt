use Rattle.std.proofs.Common.{length}
use Rattle.homeo_syntax.specs.SourceView.{plain_cond, plain_expr}
use Rattle.homeo_meaning.specs.Acceptance.{weight_limit}
use Rattle.homeo_context.specs.Contexts.{plain_context}
use Rattle.homeo_eval.specs.inner.States.{state_of}
use Rattle.homeo_eval.specs.inner.Visits.{writes_at, value_fits_at}
use Rattle.homeo_eval.proofs.VisitSteps.{Going}
use Rattle.homeo_eval.proofs.changes.update.Given as goal

abbrev pub invariant-loop-number : goal.invariant-loop-number
invariant-loop-number l =
    Going (plain_context l.context) l.row (plain_cond l.test) (value_fits_at weight_limit (plain_context l.context) l.row (plain_expr l.e)) (writes_at (plain_context l.context) l.row l.field (plain_expr l.e)) l.slots l.number
    (length l.state.database.items) (length l.initial.state.database.items) (state_of l.state) (state_of l.initial.state)
