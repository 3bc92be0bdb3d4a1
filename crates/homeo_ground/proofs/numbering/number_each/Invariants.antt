-- The loop of `number_each`.
use Rattle.std.proofs.Common.{◌≡◌, [], map, take}
use Rattle.std.specs.List.{flat_map}
use Rattle.homeo_syntax.specs.SourceView.{plain_client}
use Rattle.homeo_meaning.specs.GlobalNames.{sited_calls_of}
use Rattle.homeo_meaning.specs.NumberRules.{distinct_after}
use Rattle.homeo_meaning.specs.CallPlaces.{places_among}
use Rattle.homeo_ground.specs.inner.Keys.{sited_all, AreKeys}
use Rattle.homeo_ground.proofs.numbering.number_each.Given as goal

abbrev pub invariant-loop-client : goal.invariant-loop-client
invariant-loop-client l = record {
  keys : AreKeys l.distinct;
  calls : sited_all l.distinct ≡ distinct_after [] (flat_map sited_calls_of (map plain_client (take l.client-index l.clients)));
  places : map (λ places. places.items) l.places.items ≡ places_among (sited_all l.distinct) (map plain_client (take l.client-index l.clients));
}
