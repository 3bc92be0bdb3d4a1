use Rattle.std.proofs.Common.{◌≡◌, map, take}
use Rattle.homeo_syntax.specs.SourceView.{plain_relation}
use Rattle.homeo_meaning.specs.Schema.{declared_relation}
use Rattle.homeo_meaning.specs.Context.{object_count}
use Rattle.homeo_context.specs.Placed.{placed_relation, StandFrom}
use Rattle.homeo_context.proofs.declarations.place_relations.Given as goal

abbrev pub invariant-loop-relation : goal.invariant-loop-relation
invariant-loop-relation l = record {
  placed : map placed_relation l.places.items ≡ map (λ q. declared_relation (plain_relation q)) (take l.relation-index l.relations);
  stand : StandFrom l.first l.places.items;
  next : l.next ≡ object_count l.first (map placed_relation l.places.items);
}
