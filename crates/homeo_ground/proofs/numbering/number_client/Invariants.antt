-- The loop of `number_client`.
use Rattle.std.proofs.Common.{◌≡◌, map, take}
use Rattle.homeo_meaning.specs.NumberRules.{distinct_after}
use Rattle.homeo_meaning.specs.CallPlaces.{place_among}
use Rattle.homeo_ground.specs.inner.Keys.{sited_all, AreKeys}
use Rattle.homeo_ground.proofs.Calls.{sited_at}
use Rattle.homeo_ground.proofs.numbering.number_client.Given as goal

abbrev pub invariant-loop-call : goal.invariant-loop-call
invariant-loop-call l = record {
  keys : AreKeys l.distinct;
  calls : sited_all l.distinct ≡ distinct_after (sited_all l.fn.distinct) (map (sited_at l.client) (take l.call-index l.calls));
  places : l.places.items ≡ map (place_among (sited_all l.distinct)) (map (sited_at l.client) (take l.call-index l.calls));
}
