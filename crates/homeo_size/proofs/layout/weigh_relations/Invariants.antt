-- The relations so far, and those that are left, are weighed.
use Rattle.std.proofs.Common.{◌≡◌, ◌++◌, map, drop}
use Rattle.homeo_meaning.specs.Bounds.{relation_bounds}
use Rattle.homeo_size.specs.inner.Laid.{relation_of, capped_weight}
use Rattle.homeo_size.proofs.layout.weigh_relations.Given as goal

abbrev pub invariant-loop-relation : goal.invariant-loop-relation
invariant-loop-relation l = l.weights.items ++ map capped_weight (relation_bounds (map relation_of (drop l.relation-index l.relations))) ≡ l.initial.weights.items ++ map capped_weight (relation_bounds (map relation_of l.relations))
