use Rattle.std.proofs.Common.{ap, ◌∙◌}
use Rattle.std.proofs.lemmas.Result.{on_ok_weaker}
use Rattle.homeo_syntax.specs.LowView.{plain_lexpr, plain_lcond, plain_lcommand}
use Rattle.homeo_syntax.proofs.LowViews.{low_Skip, low_Assign, low_Write, low_Print, low_Seq, low_If}
use Rattle.homeo_build.proofs.WrittenDeltas.{marks_begin, marks_more, marks_of, marks_skip, marks_assign, marks_print, marks_write, marks_seq, marks_if}
use Rattle.homeo_build.proofs.written.+marks.Goals as goal

pub mark-returns-in-Skip : goal.mark-returns-in-Skip
mark-returns-in-Skip n c =
    marks_of _ c.args.row.now.items c.args.command.now _ (ap plain_lcommand c.in-Skip.is ∙ low_Skip) (marks_skip c.args.row.now.items)

pub mark-returns-in-Assign : goal.mark-returns-in-Assign
mark-returns-in-Assign n c =
    marks_of _ c.args.row.now.items c.args.command.now _ (ap plain_lcommand c.in-Assign.is ∙ low_Assign c.in-Assign.target c.in-Assign.value)
    (marks_assign c.args.row.now.items c.in-Assign.target (plain_lexpr c.in-Assign.value))

pub mark-returns-in-Print : goal.mark-returns-in-Print
mark-returns-in-Print n c =
    marks_of _ c.args.row.now.items c.args.command.now _ (ap plain_lcommand c.in-Print.is ∙ low_Print c.in-Print.value)
    (marks_print c.args.row.now.items (plain_lexpr c.in-Print.value))

pub mark-returns-in-Write : goal.mark-returns-in-Write
mark-returns-in-Write n c =
    on_ok_weaker c.mark_name.result (λ marked.
    marks_of _ c.args.row.now.items c.args.command.now _ (ap plain_lcommand c.in-Write.is ∙ low_Write c.in-Write.target c.in-Write.value)
    (marks_write _ c.args.row.now.items c.in-Write.target (plain_lexpr c.in-Write.value) marked)) c.mark_name.ensures

pub mark-returns-in-Seq : goal.mark-returns-in-Seq
mark-returns-in-Seq n c =
    on_ok_weaker c.mark_all.result (λ marked.
    marks_of _ c.args.row.now.items c.args.command.now _ (ap plain_lcommand c.in-Seq.is ∙ low_Seq c.in-Seq.commands)
    (marks_seq _ c.args.row.now.items c.in-Seq.commands.items c.as_slice.result.now c.as_slice.ensures marked)) c.mark_all.ensures

pub mark-returns-in_ok-mark-in-If : goal.mark-returns-in_ok-mark-in-If
mark-returns-in_ok-mark-in-If n c =
    on_ok_weaker c.mark-in-If.result (λ marked.
    marks_of _ c.args.row.now.items c.args.command.now _ (ap plain_lcommand c.in-If.is ∙ low_If c.in-If.test c.in-If.yes c.in-If.no)
    (marks_if _ c.mark.new.row.items c.args.row.now.items (plain_lcond c.in-If.test) c.in-If.yes.value c.in-If.no.value c.deref.result.now c.deref-in-If.result.now
    c.deref.ensures c.deref-in-If.ensures marked c.in_ok-mark-in-If.ensures)) c.mark-in-If.ensures

pub mark_all-loop-command-init : goal.mark_all-loop-command-init
mark_all-loop-command-init n c = marks_begin c.args.row.now.items

pub mark_all-loop-command-preserved : goal.mark_all-loop-command-preserved
mark_all-loop-command-preserved n c =
    marks_more c.args.commands.now c.loop-command.command-index c.command-item.result _ c.loop-command.row.items c.args.row.now.items c.loop-command-test.true
    c.command-item.is c.in_ok-mark.ensures c.loop-command.invariant
