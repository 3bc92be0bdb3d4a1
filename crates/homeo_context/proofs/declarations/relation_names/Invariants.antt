use Rattle.std.proofs.Common.{◌≡◌, map, take}
use Rattle.homeo_context.proofs.declarations.relation_names.Given as goal

abbrev pub invariant-loop-relation : goal.invariant-loop-relation
invariant-loop-relation l = l.names.items ≡ map (λ p. p.name) (take l.relation-index l.relations)
