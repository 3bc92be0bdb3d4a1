use Rattle.std.proofs.Common.{◌≡◌, ◌++◌, take}
use Rattle.homeo_print.specs.Calls.{more_arguments_text}
use Rattle.homeo_print.proofs.calls.push_more_arguments.Given as goal

abbrev pub invariant-loop-argument : goal.invariant-loop-argument
invariant-loop-argument l = l.out.items ≡ l.fn.out.items ++ more_arguments_text (take l.argument-index l.args)
