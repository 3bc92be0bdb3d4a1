-- The calls so far are distinct, each with its place.
use Rattle.homeo_ground.specs.inner.Keys.{sited_all}
use Rattle.homeo_ground.proofs.Calls.{no-calls, client_calls-step, client_places-step, client_calls-whole, client_places-whole}
use Rattle.homeo_ground.proofs.numbering.number_client.Goals as goal

pub loop-call-init : goal.loop-call-init
loop-call-init c = record { keys = c.requires; calls = no-calls (sited_all c.args.distinct.now); places = c.in_ok-places.ensures.items }

pub loop-call-preserved : goal.loop-call-preserved
loop-call-preserved c =
    let client = c.args.client.now in
    let calls = c.as_slice-calls.result.now in
    let item = c.call-item.result in
    let is = c.of.ensures in
    let so_far = c.loop-call.invariant in
    let put = c.in_ok-place.ensures in
    let made = c.in_ok-push.ensures.items in
    let within = c.loop-call-test.true in
    record {
      keys = put.keys;
      calls = client_calls-step client calls c.loop-call.call-index item within c.call-item.is _ is _ _ _ so_far.calls put.calls;
      places =
          client_places-step client calls c.loop-call.call-index item within c.call-item.is _ is _ _ _ so_far.calls put.calls _ _ _ so_far.places put.place made;
    }

pub returns-clause-calls : goal.returns-clause-calls
returns-clause-calls c =
    let calls = c.as_slice-calls in
    client_calls-whole c.args.client.now calls.result.now c.loop-call.call-index _ _ calls.ensures c.loop-call-test.false c.loop-call.invariant.calls

pub returns-clause-places : goal.returns-clause-places
returns-clause-places c =
    let calls = c.as_slice-calls in
    let so_far = c.loop-call in
    client_places-whole c.args.client.now calls.result.now so_far.call-index _ _ calls.ensures c.loop-call-test.false so_far.invariant.places
