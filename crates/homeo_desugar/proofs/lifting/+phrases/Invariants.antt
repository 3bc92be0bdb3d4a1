-- What is lifted so far and what the rest is lifted to are all that there is.
use Rattle.std.proofs.Common.{false, map, drop}
use Rattle.homeo_syntax.specs.Low.{NoExpr}
use Rattle.homeo_syntax.specs.SourceView.{exprs, tests, plain_expr, plain_test, plain_cond}
use Rattle.homeo_syntax.specs.LowView.{low_exprs, low_tests, plain_lexpr, plain_ltest}
use Rattle.homeo_meaning.specs.Context.{bind}
use Rattle.homeo_meaning.specs.LForm.{visits, lift_all, lift_cond}
use Rattle.homeo_desugar.specs.inner.Made.{both_tests}
use Rattle.homeo_context.specs.Slots.{slots_of}
use Rattle.homeo_context.specs.Contexts.{plain_context}
use Rattle.homeo_context.proofs.SlotLists.{left}
use Rattle.homeo_desugar.specs.inner.Visits.{adding, term_of}
use Rattle.homeo_desugar.proofs.Makings.{Leaves, VisitsLeft, both_exprs}
use Rattle.homeo_desugar.proofs.lifting.+phrases.Given as goal

abbrev pub invariant-lift_all-loop-e : goal.invariant-lift_all-loop-e
invariant-lift_all-loop-e l =
    Leaves l.initial.out l.out NoExpr (low_exprs (map plain_lexpr l.lifted.items)) both_exprs (lift_all (plain_context l.context) (exprs (map plain_expr (drop l.e-index l.es))) l.out.next) (lift_all (plain_context l.context) (exprs (map plain_expr l.es)) l.initial.out.next)

abbrev pub invariant-lift_tests-loop-t : goal.invariant-lift_tests-loop-t
invariant-lift_tests-loop-t l =
    Leaves l.initial.out l.out (low_tests (map plain_ltest l.initial.lifted.items)) (low_tests (map plain_ltest l.lifted.items)) both_tests (lift_cond (plain_context l.context) (tests (map plain_test (drop l.t-index l.ts))) l.out.next) (lift_cond (plain_context l.context) (tests (map plain_test l.ts)) l.initial.out.next)

abbrev pub invariant-add_slots-loop-number : goal.invariant-add_slots-loop-number
invariant-add_slots-loop-number l =
    VisitsLeft l.initial.out l.out (visits false false (λ slot. lift_cond (bind (plain_context l.context) l.row slot) (plain_cond l.test)) (adding l.total (term_of l.field)) (left l.slots l.number) l.out.next) (visits false false (λ slot. lift_cond (bind (plain_context l.context) l.row slot) (plain_cond l.test)) (adding l.total (term_of l.field)) (slots_of l.slots) l.initial.out.next)
