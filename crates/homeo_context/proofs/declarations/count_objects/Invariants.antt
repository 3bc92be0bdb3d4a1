use Rattle.std.proofs.Common.{◌≡◌, drop, map}
use Rattle.homeo_meaning.specs.Context.{object_count}
use Rattle.homeo_context.specs.Placed.{placed_relation, StandFrom}
use Rattle.homeo_context.proofs.declarations.count_objects.Given as goal

abbrev pub invariant-loop-relation : goal.invariant-loop-relation
invariant-loop-relation l = record {
  stand : StandFrom l.count (drop l.relation-index l.relations);
  count : object_count l.count (map placed_relation (drop l.relation-index l.relations)) ≡ object_count l.first (map placed_relation l.relations);
}
