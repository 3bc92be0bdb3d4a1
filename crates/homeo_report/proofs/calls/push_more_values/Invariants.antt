use Rattle.std.proofs.Common.{◌≡◌, ◌++◌, map, take}
use Rattle.homeo_print.specs.Calls.{more_arguments_text}
use Rattle.homeo_report.proofs.calls.push_more_values.Given as goal

abbrev pub invariant-loop-argument : goal.invariant-loop-argument
invariant-loop-argument l = l.out.items ≡ l.fn.out.items ++ more_arguments_text (map (λ a. a.value) (take l.argument-index l.args))
