-- Each kind of command, and one more of a list.
use Rattle.std.proofs.Common.{rules, map, sym, ap, ◌∙◌, subst}
use Rattle.std.proofs.lemmas.Result.{on_ok_weaker}
use Rattle.homeo_syntax.specs.LowView.{low_commands, plain_lcond, plain_lcommand}
use Rattle.homeo_syntax.specs.declared.low.LCommand.{the_lemmas}
use Rattle.homeo_syntax.proofs.LowViews.{low_Skip, low_Assign, low_Write, low_Print, low_Seq, low_If}
use Rattle.homeo_meaning.specs.Small.{IsSmall}
use Rattle.homeo_plan.specs.Limit.{form_limit}
use Rattle.homeo_follow.specs.Key.{definitions}
use Rattle.homeo_follow.specs.Follow.{and_then, Followed, follow, follow_all}
use Rattle.homeo_follow.specs.FollowSizes.{CanAllBeFollowed}
use Rattle.homeo_form.specs.Standing.{forms_of}
use Rattle.homeo_linear.specs.inner.Course.{followed_so}
use Rattle.homeo_linear.proofs.Coursing.{then_nothing, assign_can, write_can, print_can, seq_can, if_can, branch_can, branch_followed, asked_forms, yes_taken, no_taken, along_first, along_next, along_end}
use Rattle.homeo_linear.proofs.course.+commands.Goals as goal

pub follow-returns-in-Skip : goal.follow-returns-in-Skip
unfolding definitions
follow-returns-in-Skip t c =
    let p = followed_so c.args.course.now in
    then_nothing p ∙ ap (λ k. and_then p (follow k p.forms)) (sym (ap plain_lcommand c.in-Skip.is ∙ low_Skip))

pub follow-returns-in-Assign : goal.follow-returns-in-Assign
follow-returns-in-Assign t c =
    let p = followed_so c.args.course.now in
    on_ok_weaker c.assign.result
    (λ h. h ∙ ap (λ k. and_then p (follow k p.forms)) (sym (ap plain_lcommand c.in-Assign.is ∙ low_Assign c.in-Assign.target c.in-Assign.value))) c.assign.ensures

pub follow-returns-in-Write : goal.follow-returns-in-Write
follow-returns-in-Write t c =
    let p = followed_so c.args.course.now in
    on_ok_weaker c.write.result
    (λ h. h ∙ ap (λ k. and_then p (follow k p.forms)) (sym (ap plain_lcommand c.in-Write.is ∙ low_Write c.in-Write.target c.in-Write.value))) c.write.ensures

pub follow-returns-in-Print : goal.follow-returns-in-Print
follow-returns-in-Print t c =
    let p = followed_so c.args.course.now in
    on_ok_weaker c.print.result
    (λ h. h ∙ ap (λ k. and_then p (follow k p.forms)) (sym (ap plain_lcommand c.in-Print.is ∙ low_Print c.in-Print.value))) c.print.ensures

pub follow-assign-requires : goal.follow-assign-requires
follow-assign-requires t c =
    assign_can (forms_of c.args.course.now.standing) c.args.command.now c.requires c.in-Assign.target c.in-Assign.value c.in-Assign.is

pub follow-write-requires : goal.follow-write-requires
follow-write-requires t c =
    write_can (forms_of c.args.course.now.standing) c.args.command.now c.requires c.in-Write.target c.in-Write.value c.in-Write.is

pub follow-print-requires : goal.follow-print-requires
follow-print-requires t c = print_can (forms_of c.args.course.now.standing) c.args.command.now c.requires c.in-Print.value c.in-Print.is

pub follow-follow_all-requires : goal.follow-follow_all-requires
follow-follow_all-requires t c = (
  search (rules, the_lemmas),
  subst (λ l. CanAllBeFollowed (IsSmall form_limit) (forms_of c.args.course.now.standing) (low_commands (map plain_lcommand l))) (sym c.as_slice.ensures)
      (seq_can (forms_of c.args.course.now.standing) c.args.command.now c.requires c.in-Seq.commands c.in-Seq.is),
)

pub follow-ask-requires : goal.follow-ask-requires
follow-ask-requires t c =
    (if_can (forms_of c.args.course.now.standing) c.args.command.now c.requires c.in-If.test c.in-If.yes c.in-If.no c.in-If.is).test

pub follow-follow-requires : goal.follow-follow-requires
follow-follow-requires t c =
    let p : Followed = followed_so c.args.course.now in
    let asked = c.in_ok-ask-in-If.ensures in
    let stay = asked_forms p (followed_so c.ask.new.self) _ p.forms asked.asked in
    let can = if_can p.forms c.args.command.now c.requires c.in-If.test c.in-If.yes c.in-If.no c.in-If.is in (
      search (rules, the_lemmas),
      branch_can (followed_so c.ask.new.self) p.forms c.deref.result.now c.in-If.yes.value stay c.deref.ensures (can.yes (sym asked.holds ∙ c.if-branch.true)),
    )

pub follow-follow-requires-else-branch : goal.follow-follow-requires-else-branch
follow-follow-requires-else-branch t c =
    let p : Followed = followed_so c.args.course.now in
    let asked = c.in_ok-ask-in-If.ensures in
    let stay = asked_forms p (followed_so c.ask.new.self) _ p.forms asked.asked in
    let can = if_can p.forms c.args.command.now c.requires c.in-If.test c.in-If.yes c.in-If.no c.in-If.is in (
      search (rules, the_lemmas),
      branch_can (followed_so c.ask.new.self) p.forms c.deref-else-branch.result.now c.in-If.no.value stay c.deref-else-branch.ensures (can.no (sym asked.holds ∙ c.if-branch.false)),
    )

pub follow-returns-in-Seq : goal.follow-returns-in-Seq
unfolding definitions
follow-returns-in-Seq t c =
    let p = followed_so c.args.course.now in
    on_ok_weaker c.follow_all.result
    (λ h. h ∙ ap (λ l. and_then p (follow_all (low_commands (map plain_lcommand l)) p.forms)) c.as_slice.ensures
    ∙ ap (λ k. and_then p (follow k p.forms)) (sym (ap plain_lcommand c.in-Seq.is ∙ low_Seq c.in-Seq.commands))) c.follow_all.ensures

pub follow-returns-then-branch : goal.follow-returns-then-branch
follow-returns-then-branch t c =
    let p : Followed = followed_so c.args.course.now in
    let m : Followed = followed_so c.ask.new.self in
    let asked = c.in_ok-ask-in-If.ensures in
    let stay = asked_forms p m _ p.forms asked.asked in
    on_ok_weaker c.follow.result
    (λ h. yes_taken p m (followed_so c.follow.new.course) p.forms (plain_lcond c.in-If.test) (plain_lcommand c.in-If.yes.value) (plain_lcommand c.in-If.no.value)
    c.in_ok-ask-in-If.field-0 asked.holds asked.asked (sym c.if-branch.true)
    (branch_followed m (followed_so c.follow.new.course) p.forms c.deref.result.now c.in-If.yes.value stay c.deref.ensures h)
    ∙ ap (λ k. and_then p (follow k p.forms)) (sym (ap plain_lcommand c.in-If.is ∙ low_If c.in-If.test c.in-If.yes c.in-If.no)))
    c.follow.ensures

pub follow-returns-else-branch : goal.follow-returns-else-branch
follow-returns-else-branch t c =
    let p : Followed = followed_so c.args.course.now in
    let m : Followed = followed_so c.ask.new.self in
    let asked = c.in_ok-ask-in-If.ensures in
    let stay = asked_forms p m _ p.forms asked.asked in
    on_ok_weaker c.follow-else-branch.result
    (λ h. no_taken p m (followed_so c.follow-else-branch.new.course) p.forms (plain_lcond c.in-If.test) (plain_lcommand c.in-If.yes.value) (plain_lcommand c.in-If.no.value)
    c.in_ok-ask-in-If.field-0 asked.holds asked.asked (sym c.if-branch.false)
    (branch_followed m (followed_so c.follow-else-branch.new.course) p.forms c.deref-else-branch.result.now c.in-If.no.value stay c.deref-else-branch.ensures h)
    ∙ ap (λ k. and_then p (follow k p.forms)) (sym (ap plain_lcommand c.in-If.is ∙ low_If c.in-If.test c.in-If.yes c.in-If.no)))
    c.follow-else-branch.ensures

pub follow_all-follow-requires : goal.follow_all-follow-requires
follow_all-follow-requires t c =
    let whole = and_then (followed_so c.args.course.now) (follow_all (low_commands (map plain_lcommand c.args.commands.now)) (forms_of c.args.course.now.standing)) in (
      search (rules, the_lemmas),
      along_first (followed_so c.loop-command.course) whole c.args.commands.now c.loop-command.command-index c.command-item.result c.loop-command-test.true
          c.command-item.is c.loop-command.invariant,
    )

pub follow_all-loop-command-preserved : goal.follow_all-loop-command-preserved
follow_all-loop-command-preserved t c =
    let whole = and_then (followed_so c.args.course.now) (follow_all (low_commands (map plain_lcommand c.args.commands.now)) (forms_of c.args.course.now.standing)) in
    along_next (followed_so c.loop-command.course) (followed_so c.follow.new.course) whole c.args.commands.now c.loop-command.command-index
    c.command-item.result c.loop-command-test.true c.command-item.is c.loop-command.invariant c.in_ok-follow.ensures

pub follow_all-returns : goal.follow_all-returns
follow_all-returns t c =
    let whole = and_then (followed_so c.args.course.now) (follow_all (low_commands (map plain_lcommand c.args.commands.now)) (forms_of c.args.course.now.standing)) in
    along_end (followed_so c.loop-command.course) whole c.args.commands.now c.loop-command.command-index c.loop-command-test.false c.loop-command.invariant
