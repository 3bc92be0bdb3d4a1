-- The slots so far and those that are left are all.
use Rattle.std.proofs.Common.{false}
use Rattle.homeo_syntax.specs.SourceView.{plain_cond}
use Rattle.homeo_meaning.specs.Context.{bind}
use Rattle.homeo_meaning.specs.LForm.{visits, lift_cond, clear}
use Rattle.homeo_context.specs.Slots.{slots_of}
use Rattle.homeo_context.specs.Contexts.{plain_context}
use Rattle.homeo_context.proofs.SlotLists.{left}
use Rattle.homeo_desugar.proofs.Makings.{VisitsLeft}
use Rattle.homeo_desugar.proofs.forming.delete.Given as goal

abbrev pub invariant-loop-number : goal.invariant-loop-number
invariant-loop-number l =
    VisitsLeft l.initial.out l.out (visits false false (λ slot. lift_cond (bind (plain_context l.context) l.row slot) (plain_cond l.test)) clear (left l.slots l.number) l.out.next) (visits false false (λ slot. lift_cond (bind (plain_context l.context) l.row slot) (plain_cond l.test)) clear (slots_of l.slots) l.initial.out.next)
