use Rattle.homeo_syntax.specs.Key.{definitions as syntax_definitions}
use Rattle.homeo_wire.specs.Key.{definitions}
use Rattle.std.proofs.Common.{◌≡◌, ◌<◌, ◌+◌, ◌-◌, length, take, get_or, Some, sym, ap, ◌∙◌, arith}
use Rattle.std.specs.Prelude.{slice_get, option_map}
use Rattle.homeo_lemmas.proofs.Places.{get_read}
use Rattle.homeo_syntax.specs.Source as s
use Rattle.homeo_syntax.specs.SourceView.{plain_workload}
use Rattle.homeo_syntax.specs.declared.workload.Call.{Call as CallText}
use Rattle.homeo_wire.specs.Drive.{calls_in}
use Rattle.homeo_wire.proofs.Driving.{calls_of, calls_next, calls_none, calls_all, call_among}
use Rattle.homeo_wire.proofs.driver.count_calls.Goals as goal

pub loop-client-init : goal.loop-client-init
loop-client-init c = record { counted = calls_none c.as_slice-client-items.result.now; few = omega arith }

pub loop-client-preserved : goal.loop-client-preserved
loop-client-preserved c =
    let xs = c.as_slice-client-items.result.now in
    let i = c.loop-client.client-index in
    let next = calls_next xs i c.client-item.result c.loop-client-test.true c.client-item.is in
    let counted = c.loop-client.invariant.counted in
    let few = c.loop-client.invariant.few in
    let long : length c.as_slice-calls.result.now ≡ length c.client-item.result.calls.items = ap length c.as_slice-calls.ensures in
    let room = c.if-calls-room.false in
    record { counted = omega (arith, next, counted, long); few = omega (arith, few, room) }

pub returns-then-calls-room-clause-excess : goal.returns-then-calls-room-clause-excess
unfolding definitions syntax_definitions
returns-then-calls-room-clause-excess c =
    let xs = c.as_slice-client-items.result.now in
    let i = c.loop-client.client-index in
    let client = c.client-item.result in
    let call = c.index-calls-room.result in
    let counted = c.loop-client.invariant.counted in
    let few = c.loop-client.invariant.few in
    let long : length c.as_slice-calls.result.now ≡ length client.calls.items = ap length c.as_slice-calls.ensures in
    let lt : 200 - c.loop-client.count < length client.calls.items = omega (arith, long, c.if-calls-room.true) in
    let here : slice_get client.calls.items (200 - c.loop-client.count) ≡ Some call = get_read client.calls.items (200 - c.loop-client.count) call lt (c.index-calls-room.is ∙ ap (λ l. get_or l (200 - c.loop-client.count) call) c.as_slice-calls.ensures) in
    let place : length (calls_of (take i xs)) + (200 - c.loop-client.count) ≡ 200 = omega (arith, counted, few) in
    let all : calls_of xs ≡ calls_in (plain_workload c.args.w.now) = ap calls_of (c.as_slice-client-items.ensures ∙ ap (λ w. w.clients.items) c.workload.ensures.value) in
    ap (option_map (λ (k : s.Call). k.name)) (ap (λ l. slice_get l 200) (sym all) ∙ ap (slice_get (calls_of xs)) (sym place) ∙ call_among xs i client c.loop-client-test.true c.client-item.is (200 - c.loop-client.count) call here)
    ∙ ap (λ (k : CallText). Some k.name) c.index-calls-room.is

pub returns-clause-counted : goal.returns-clause-counted
unfolding definitions syntax_definitions
returns-clause-counted c =
    let xs = c.as_slice-client-items.result.now in
    let all : calls_of xs ≡ calls_in (plain_workload c.args.w.now) = ap calls_of (c.as_slice-client-items.ensures ∙ ap (λ w. w.clients.items) c.workload.ensures.value) in
    c.loop-client.invariant.counted ∙ ap length (calls_all xs c.loop-client.client-index c.loop-client-test.false ∙ all)
