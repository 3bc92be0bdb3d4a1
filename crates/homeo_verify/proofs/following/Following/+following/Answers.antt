-- Each kind of command, and one more command.
use Rattle.std.proofs.Common.{◌≡◌, ◌+◌, map, drop, sym, ap, ◌∙◌, subst}
use Rattle.std.proofs.lemmas.Result.{on_ok_weaker}
use Rattle.homeo_syntax.specs.Low.{Seq, If}
use Rattle.homeo_syntax.specs.LowView.{low_commands, plain_lcommand, plain_lcond}
use Rattle.homeo_syntax.proofs.LowViews.{low_Skip, low_Seq, low_If}
use Rattle.homeo_certificate.specs.Key.{definitions}
use Rattle.homeo_certificate.specs.Followed.{faults}
use Rattle.homeo_verify.specs.inner.Follows.{Follows, rules_in, forms_in}
use Rattle.homeo_verify.specs.inner.Stops.{Finds}
use Rattle.homeo_verify.proofs.FollowSteps.{commands_start, command_stops, command_goes_on, commands_faultless, commands_followed, next_command, last_command, skip_follows, seq_follows, if_stops, yes_finds, no_finds, yes_follows, no_follows}
use Rattle.homeo_verify.proofs.Stopping.{stop_with, stops_as}
use Rattle.homeo_verify.proofs.following.Following.+following.Goals as goal

pub follow-returns-in-Skip-clause-faults : goal.follow-returns-in-Skip-clause-faults
unfolding definitions
follow-returns-in-Skip-clause-faults t c =
    let s = c.args.self.now in
    ap (λ x. faults (rules_in s) x (forms_in s)) (ap plain_lcommand c.in-Skip.is ∙ low_Skip)

pub follow-returns-in-Skip-clause-after : goal.follow-returns-in-Skip-clause-after
follow-returns-in-Skip-clause-after t c =
    let s = c.args.self.now in
    subst (λ x. Follows x s s) (sym (ap plain_lcommand c.in-Skip.is ∙ low_Skip)) (skip_follows s)

pub follow-returns-in-Seq-clause-faults : goal.follow-returns-in-Seq-clause-faults
unfolding definitions
follow-returns-in-Seq-clause-faults t c =
    let s = c.args.self.now in
    let is : plain_lcommand c.args.command.now ≡ Seq (low_commands (map plain_lcommand c.as_slice.result.now)) =
    ap plain_lcommand c.in-Seq.is ∙ low_Seq c.in-Seq.commands ∙ ap (λ l. Seq (low_commands (map plain_lcommand l))) (sym c.as_slice.ensures) in
    subst (λ x. Finds (faults (rules_in s) x (forms_in s)) c.follow_all.result) (sym is) c.follow_all.ensures.faults

pub follow-returns-in-Seq-clause-after : goal.follow-returns-in-Seq-clause-after
follow-returns-in-Seq-clause-after t c =
    let s = c.args.self.now in
    let is : plain_lcommand c.args.command.now ≡ Seq (low_commands (map plain_lcommand c.as_slice.result.now)) =
    ap plain_lcommand c.in-Seq.is ∙ low_Seq c.in-Seq.commands ∙ ap (λ l. Seq (low_commands (map plain_lcommand l))) (sym c.as_slice.ensures) in
    on_ok_weaker c.follow_all.result (λ f. subst (λ x. Follows x s c.follow_all.new.self) (sym is) (seq_follows (low_commands (map plain_lcommand c.as_slice.result.now)) s c.follow_all.new.self f)) c.follow_all.ensures.after

pub follow-returns-in_err-branch-in-If-clause-faults : goal.follow-returns-in_err-branch-in-If-clause-faults
follow-returns-in_err-branch-in-If-clause-faults t c =
    let s = c.args.self.now in
    let is : plain_lcommand c.args.command.now ≡ If (plain_lcond c.in-If.test) (plain_lcommand c.in-If.yes.value) (plain_lcommand c.in-If.no.value) =
    ap plain_lcommand c.in-If.is ∙ low_If c.in-If.test c.in-If.yes c.in-If.no in
    stop_with _ c.from_residual.result _ c.from_residual.ensures.1
    (stops_as _ _ _ (ap (λ x. faults (rules_in s) x (forms_in s)) (sym is))
    (if_stops (plain_lcond c.in-If.test) (plain_lcommand c.in-If.yes.value) (plain_lcommand c.in-If.no.value) s _ c.in_err-branch-in-If.ensures.faults))

pub follow_all-loop-command-init : goal.follow_all-loop-command-init
follow_all-loop-command-init t c = commands_start c.args.self.now (low_commands (map plain_lcommand c.args.commands.now))

pub follow_all-returns-in_err-follow-clause-faults : goal.follow_all-returns-in_err-follow-clause-faults
follow_all-returns-in_err-follow-clause-faults t c =
    let cs = c.args.commands.now in
    let all = low_commands (map plain_lcommand cs) in
    let rest = low_commands (map plain_lcommand (drop (c.loop-command.command-index + 1) cs)) in
    let so = next_command c.args.self.now c.loop-command.self cs c.loop-command.command-index c.command-item.result all c.loop-command-test.true c.command-item.is
    c.loop-command.invariant in
    stop_with _ c.from_residual.result _ c.from_residual.ensures.1
    (command_stops c.args.self.now c.loop-command.self (plain_lcommand c.command-item.result) rest all so _ c.in_err-follow.ensures.faults)

pub follow_all-loop-command-preserved : goal.follow_all-loop-command-preserved
follow_all-loop-command-preserved t c =
    let cs = c.args.commands.now in
    let all = low_commands (map plain_lcommand cs) in
    let rest = low_commands (map plain_lcommand (drop (c.loop-command.command-index + 1) cs)) in
    let so = next_command c.args.self.now c.loop-command.self cs c.loop-command.command-index c.command-item.result all c.loop-command-test.true c.command-item.is
    c.loop-command.invariant in
    command_goes_on c.args.self.now c.loop-command.self (plain_lcommand c.command-item.result) rest all so c.follow.new.self c.in_ok-follow.ensures.faults c.in_ok-follow.ensures.after

pub follow_all-returns-clause-faults : goal.follow_all-returns-clause-faults
follow_all-returns-clause-faults t c =
    let cs = c.args.commands.now in
    let all = low_commands (map plain_lcommand cs) in
    commands_faultless c.args.self.now c.loop-command.self all
    (last_command c.args.self.now c.loop-command.self cs c.loop-command.command-index all c.loop-command-test.false c.loop-command.invariant)

pub follow_all-returns-clause-after : goal.follow_all-returns-clause-after
follow_all-returns-clause-after t c =
    let cs = c.args.commands.now in
    let all = low_commands (map plain_lcommand cs) in
    commands_followed c.args.self.now c.loop-command.self all
    (last_command c.args.self.now c.loop-command.self cs c.loop-command.command-index all c.loop-command-test.false c.loop-command.invariant)

pub follow-returns-then-branch-clause-faults : goal.follow-returns-then-branch-clause-faults
follow-returns-then-branch-clause-faults t c =
    let s = c.args.self.now in
    let b = plain_lcond c.in-If.test in
    let yes = plain_lcommand c.in-If.yes.value in
    let no = plain_lcommand c.in-If.no.value in
    let is : plain_lcommand c.args.command.now ≡ If b yes no = ap plain_lcommand c.in-If.is ∙ low_If c.in-If.test c.in-If.yes c.in-If.no in
    let test = c.in_ok-branch-in-If.ensures in
    subst (λ x. Finds (faults (rules_in s) x (forms_in s)) c.follow.result) (sym is)
    (yes_finds b yes no s c.in_ok-branch-in-If.field-0 test.taken c.follow.result test.faults c.if-branch.true
    (subst (λ x. Finds (faults (rules_in s) (plain_lcommand x) (forms_in s)) c.follow.result) c.deref.ensures c.follow.ensures.faults))

pub follow-returns-then-branch-clause-after : goal.follow-returns-then-branch-clause-after
follow-returns-then-branch-clause-after t c =
    let s = c.args.self.now in
    let b = plain_lcond c.in-If.test in
    let yes = plain_lcommand c.in-If.yes.value in
    let no = plain_lcommand c.in-If.no.value in
    let is : plain_lcommand c.args.command.now ≡ If b yes no = ap plain_lcommand c.in-If.is ∙ low_If c.in-If.test c.in-If.yes c.in-If.no in
    let test = c.in_ok-branch-in-If.ensures in
    on_ok_weaker c.follow.result
    (λ f. subst (λ x. Follows x s c.follow.new.self) (sym is)
    (yes_follows b yes no s c.in_ok-branch-in-If.field-0 test.taken c.follow.new.self c.if-branch.true (subst (λ x. Follows (plain_lcommand x) s c.follow.new.self) c.deref.ensures f))) c.follow.ensures.after

pub follow-returns-else-branch-clause-faults : goal.follow-returns-else-branch-clause-faults
follow-returns-else-branch-clause-faults t c =
    let s = c.args.self.now in
    let b = plain_lcond c.in-If.test in
    let yes = plain_lcommand c.in-If.yes.value in
    let no = plain_lcommand c.in-If.no.value in
    let is : plain_lcommand c.args.command.now ≡ If b yes no = ap plain_lcommand c.in-If.is ∙ low_If c.in-If.test c.in-If.yes c.in-If.no in
    let test = c.in_ok-branch-in-If.ensures in
    subst (λ x. Finds (faults (rules_in s) x (forms_in s)) c.follow-else-branch.result) (sym is)
    (no_finds b yes no s c.in_ok-branch-in-If.field-0 test.taken c.follow-else-branch.result test.faults c.if-branch.false
    (subst (λ x. Finds (faults (rules_in s) (plain_lcommand x) (forms_in s)) c.follow-else-branch.result) c.deref-else-branch.ensures c.follow-else-branch.ensures.faults))

pub follow-returns-else-branch-clause-after : goal.follow-returns-else-branch-clause-after
follow-returns-else-branch-clause-after t c =
    let s = c.args.self.now in
    let b = plain_lcond c.in-If.test in
    let yes = plain_lcommand c.in-If.yes.value in
    let no = plain_lcommand c.in-If.no.value in
    let is : plain_lcommand c.args.command.now ≡ If b yes no = ap plain_lcommand c.in-If.is ∙ low_If c.in-If.test c.in-If.yes c.in-If.no in
    let test = c.in_ok-branch-in-If.ensures in
    on_ok_weaker c.follow-else-branch.result
    (λ f. subst (λ x. Follows x s c.follow-else-branch.new.self) (sym is)
    (no_follows b yes no s c.in_ok-branch-in-If.field-0 test.taken c.follow-else-branch.new.self c.if-branch.false (subst (λ x. Follows (plain_lcommand x) s c.follow-else-branch.new.self) c.deref-else-branch.ensures f))) c.follow-else-branch.ensures.after
