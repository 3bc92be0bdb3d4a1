-- What is made so far and what is left are all that there is, and the slots so far and those that are left too.
use Rattle.std.proofs.Common.{false, map, drop}
use Rattle.homeo_syntax.specs.SourceView.{commands, plain_cond, plain_command}
use Rattle.homeo_meaning.specs.Context.{bind}
use Rattle.homeo_meaning.specs.LForm.{visits, lift_cond, forms}
use Rattle.homeo_context.specs.Slots.{slots_of}
use Rattle.homeo_context.specs.Contexts.{plain_context}
use Rattle.homeo_context.proofs.SlotLists.{left}
use Rattle.homeo_syntax.specs.LowView.{low_commands, plain_lcommand}
use Rattle.homeo_desugar.specs.inner.Visits.{running}
use Rattle.homeo_desugar.proofs.Forms.{FormsLeft}
use Rattle.homeo_desugar.proofs.Makings.{VisitsLeft}
use Rattle.homeo_desugar.proofs.forming.+commands.Given as goal

abbrev pub invariant-form_all-loop-c : goal.invariant-form_all-loop-c
invariant-form_all-loop-c l =
    FormsLeft (low_commands (map plain_lcommand l.formed.items)) (forms (plain_context l.context) l.guarded (commands (map plain_command (drop l.c-index l.cs))) l.next) (forms (plain_context l.context) false (commands (map plain_command l.cs)) l.initial.next)

abbrev pub invariant-foreach-loop-number : goal.invariant-foreach-loop-number
invariant-foreach-loop-number l =
    VisitsLeft l.initial.out l.out (visits l.guarded l.later (λ slot. lift_cond (bind (plain_context l.context) l.row slot) (plain_cond l.test)) (running (plain_context l.context) l.row (commands (map plain_command l.body))) (left l.slots l.number) l.out.next)
    (visits false l.later (λ slot. lift_cond (bind (plain_context l.context) l.row slot) (plain_cond l.test)) (running (plain_context l.context) l.row (commands (map plain_command l.body))) (slots_of l.slots) l.initial.out.next)
