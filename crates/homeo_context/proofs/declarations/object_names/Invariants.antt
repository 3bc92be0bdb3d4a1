use Rattle.std.proofs.Common.{◌≡◌, map, take}
use Rattle.homeo_context.proofs.declarations.object_names.Given as goal

abbrev pub invariant-loop-object : goal.invariant-loop-object
invariant-loop-object l = l.names.items ≡ map (λ d. d.name.name) (take l.object-index l.objects)
