-- The calls of the clients so far are distinct, each with its place.
use Rattle.std.proofs.Common.{[], ap, ◌∙◌, map}
use Rattle.homeo_ground.specs.inner.Keys.{sited_all}
use Rattle.homeo_ground.proofs.Calls.{no-calls, no-places, all_calls-step, all_places-step}
use Rattle.homeo_ground.proofs.numbering.number_each.Goals as goal

pub loop-client-init : goal.loop-client-init
loop-client-init c = record {
  keys = c.requires.keys;
  calls = c.requires.none ∙ no-calls [];
  places = ap (map (λ places. places.items)) c.in_ok-places.ensures.items ∙ no-places (sited_all c.args.distinct.now);
}

pub loop-client-preserved : goal.loop-client-preserved
loop-client-preserved c =
    let clients = c.args.clients.now in
    let item = c.client-item in
    let within = c.loop-client-test.true in
    let so_far = c.loop-client.invariant in
    let new = c.in_ok-numbers.ensures in
    let made = c.in_ok-push.ensures.items in
    record {
      keys = new.keys;
      calls = all_calls-step clients c.loop-client.client-index item.result within item.is _ _ so_far.calls new.calls;
      places =
          all_places-step clients c.loop-client.client-index item.result within item.is _ _ so_far.calls new.calls _ _ _ so_far.places new.places made;
    }
