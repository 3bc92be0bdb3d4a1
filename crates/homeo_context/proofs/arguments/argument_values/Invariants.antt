use Rattle.std.proofs.Common.{◌≡◌, map, take}
use Rattle.homeo_context.proofs.arguments.argument_values.Given as goal

abbrev pub invariant-loop-arg : goal.invariant-loop-arg
invariant-loop-arg l = l.values.items ≡ map (λ a. a.value) (take l.arg-index l.args)
