-- The commands have their forms in the context of the call.
use Rattle.std.proofs.Common.{◌≡◌, ◌+◌, false, [], map, length, sym, ap, subst, ◌∙◌}
use Rattle.homeo_syntax.specs.LowView.{low_commands, plain_lcommand}
use Rattle.homeo_syntax.specs.SourceView.{commands, plain_command}
use Rattle.homeo_syntax.proofs.LowViews.{low_Seq}
use Rattle.homeo_meaning.specs.Key.{definitions as meaning_definitions}
use Rattle.std.proofs.lemmas.Result.{IfOk-weaker}
use Rattle.homeo_meaning.specs.LowWrites.{all_written}
use Rattle.homeo_meaning.specs.LForm.{forms, undoing}
use Rattle.homeo_context.specs.Contexts.{call_context, plain_context}
use Rattle.homeo_desugar.specs.inner.Made.{AreFormed}
use Rattle.homeo_desugar.specs.inner.Key.{definitions}
use Rattle.homeo_desugar.proofs.Looking.{plain_body, undone_body}
use Rattle.homeo_desugar.proofs.Rows.{context_outside, outside_fits}
use Rattle.homeo_desugar.proofs.call.form_body.Goals as goal

pub form_all-requires : goal.form_all-requires
form_all-requires c = record { fits = outside_fits c.new-context.result _ c.args.declared.now c.args.arguments.now c.new-context.ensures.declared c.new-context.ensures.arguments c.new-context.ensures.rows c.object_count.ensures c.requires }

pub form_all-requires-2 : goal.form_all-requires-2
form_all-requires-2 c = record { fits = outside_fits c.new-context.result _ c.args.declared.now c.args.arguments.now c.new-context.ensures.declared c.new-context.ensures.arguments c.new-context.ensures.rows c.object_count.ensures c.requires }

pub returns-then-not-hold_abort : goal.returns-then-not-hold_abort
unfolding definitions meaning_definitions
returns-then-not-hold_abort c =
    let d = c.args.declared.now in
    let given = c.args.arguments.now in
    low_Seq c.in_ok-commands.commands
    ∙ plain_body (call_context d given) _ (commands (map plain_command c.args.body.now)) _ (low_commands (map plain_lcommand c.in_ok-commands.commands.items)) (context_outside c.new-context.result _ d given c.new-context.ensures.declared c.new-context.ensures.arguments c.new-context.ensures.rows c.object_count.ensures) (sym c.hold_abort.ensures ∙ c.if-not-hold_abort.true) c.in_ok-commands.ensures

pub returns : goal.returns
unfolding definitions meaning_definitions
returns c =
    let d = c.args.declared.now in
    let given = c.args.arguments.now in
    let cs = commands (map plain_command c.args.body.now) in
    let context = context_outside c.new-context.result _ d given c.new-context.ensures.declared c.new-context.ensures.arguments c.new-context.ensures.rows c.object_count.ensures in
    let plain = low_commands (map plain_lcommand c.in_ok-commands.commands.items) in
    let made = low_commands (map plain_lcommand c.in_ok-commands-2.commands.items) in
    let saved = c.in_ok-saved.saved.items in
    let found : saved ≡ all_written plain [] = c.in_ok-saved.ensures ∙ ap (λ cs. all_written (low_commands (map plain_lcommand cs)) []) c.as_slice.ensures in
    let count : c.in_ok-next.next ≡ 1 + length saved = c.in_ok-next.ensures ∙ ap (λ l. 1 + length l) c.as_slice-2.ensures.value in
    let formed = subst (λ n. AreFormed c.form_all-2.new.next (forms (plain_context c.new-context.result) false cs n) made) count c.in_ok-commands-2.ensures in
    IfOk-weaker c.undoing.result _ _
    (λ r h. undone_body (call_context d given) _ cs c.form_all.new.next c.form_all-2.new.next plain made saved (plain_lcommand r) context (sym c.hold_abort.ensures ∙ c.if-not-hold_abort.false) c.in_ok-commands.ensures found formed
    (h ∙ ap (λ l. undoing l made) c.as_slice-3.ensures.value))
    c.undoing.ensures
