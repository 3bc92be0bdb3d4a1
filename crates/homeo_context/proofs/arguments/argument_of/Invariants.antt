use Rattle.std.proofs.Common.{◌≡◌, map, drop}
use Rattle.homeo_meaning.specs.Context.{arguments_of}
use Rattle.homeo_context.proofs.arguments.argument_of.Given as goal

abbrev pub invariant-loop-argument : goal.invariant-loop-argument
invariant-loop-argument l =
    let rest = drop l.argument-index l.arguments in
    arguments_of (map (λ a. a.name) rest) (map (λ a. a.value) rest) l.name ≡ arguments_of (map (λ a. a.name) l.arguments) (map (λ a. a.value) l.arguments) l.name
