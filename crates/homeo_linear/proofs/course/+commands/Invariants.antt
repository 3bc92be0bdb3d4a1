-- What is followed of the whole list, where the commands from this one on are left.
use Rattle.std.proofs.Common.{map}
use Rattle.homeo_syntax.specs.LowView.{low_commands, plain_lcommand}
use Rattle.homeo_follow.specs.Follow.{and_then, follow_all}
use Rattle.homeo_form.specs.Standing.{forms_of}
use Rattle.homeo_linear.specs.inner.Course.{followed_so}
use Rattle.homeo_linear.proofs.Coursing.{Along}
use Rattle.homeo_linear.proofs.course.+commands.Given as goal

abbrev pub invariant-follow_all-loop-command : goal.invariant-follow_all-loop-command
invariant-follow_all-loop-command l =
    Along (followed_so l.course) (and_then (followed_so l.initial.course) (follow_all (low_commands (map plain_lcommand l.commands)) (forms_of l.initial.course.standing)))
    l.commands l.command-index
