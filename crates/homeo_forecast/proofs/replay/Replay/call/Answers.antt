-- What stops the call is found among what stands on the objects that it wrote, and where nothing does, the peaks rise.
use Rattle.std.proofs.Common.{◌≡◌, ◌∙◌, length, sym, ap, option_map, arith}
use Rattle.std.specs.Vec.{with_items}
use Rattle.std.proofs.lemmas.List.{with_items_is}
use Rattle.homeo_lemmas.proofs.Options.{none_is}
use Rattle.homeo_syntax.specs.SourceView.{plain_workload}
use Rattle.homeo_forecast.specs.View.{plain_stop}
use Rattle.homeo_forecast.specs.Visits.{visits}
use Rattle.homeo_forecast.specs.declared.replay.Replay.{Replay}
use Rattle.homeo_forecast.proofs.CallSteps.{IsCallHere, lent_step, can_test, stop_there, can_raise, raised_count, goes_on_there, site_there}
use Rattle.homeo_forecast.proofs.StopTests.{some_is_not}
use Rattle.homeo_forecast.proofs.replay.Replay.call.Goals as goal

pub first_stop-requires : goal.first_stop-requires
first_stop-requires c =
    let here : IsCallHere (plain_workload c.args.c.now) c.args.plan.now c.args.call c.site_of-site.result =
    record { accepted = c.requires.accepted; plan = c.requires.plan; exists = c.requires.exists; at = c.site_of-site.ensures } in
    let step =
    lent_step (c.in_ok-step.ensures _ c.requires.replay.is) c.as_slice-deltas.result.now c.as_slice-written.result.now c.as_slice-deltas.ensures c.as_slice-written.ensures in
    can_test here c.requires.replay.is step c.as_slice.result.now c.as_slice.ensures.value

pub returns-then-is_some-clause-kept : goal.returns-then-is_some-clause-kept
returns-then-is_some-clause-kept c = λ before kept none. absurd (some_is_not c.in_ok-stop.stop (sym c.if-is_some.ensures) none)

pub returns-then-is_some-clause-stop : goal.returns-then-is_some-clause-stop
returns-then-is_some-clause-stop c = λ before kept.
    let here : IsCallHere (plain_workload c.args.c.now) c.args.plan.now c.args.call c.site_of-site.result =
    record { accepted = c.requires.accepted; plan = c.requires.plan; exists = c.requires.exists; at = c.site_of-site.ensures } in
    let step =
    lent_step (c.in_ok-step.ensures _ kept) c.as_slice-deltas.result.now c.as_slice-written.result.now c.as_slice-deltas.ensures c.as_slice-written.ensures in
    stop_there here kept step c.as_slice.result.now (option_map plain_stop c.in_ok-stop.stop) c.as_slice.ensures.value c.in_ok-stop.ensures

pub raise_all-requires : goal.raise_all-requires
raise_all-requires c =
    let here : IsCallHere (plain_workload c.args.c.now) c.args.plan.now c.args.call c.site_of-site.result =
    record { accepted = c.requires.accepted; plan = c.requires.plan; exists = c.requires.exists; at = c.site_of-site.ensures } in
    let step =
    lent_step (c.in_ok-step.ensures _ c.requires.replay.is) c.as_slice-deltas.result.now c.as_slice-written.result.now c.as_slice-deltas.ensures c.as_slice-written.ensures in
    let stop = stop_there here c.requires.replay.is step c.as_slice.result.now (option_map plain_stop c.in_ok-stop.stop) c.as_slice.ensures.value c.in_ok-stop.ensures in
    can_raise here c.requires.replay.is step (sym stop ∙ ap (option_map plain_stop) (none_is c.in_ok-stop.stop (sym c.if-is_some.ensures))) c.as_mut_slice.result.now
    c.as_mut_slice.ensures.value

pub put-requires : goal.put-requires
put-requires c =
    let here : IsCallHere (plain_workload c.args.c.now) c.args.plan.now c.args.call c.site_of-site.result =
    record { accepted = c.requires.accepted; plan = c.requires.plan; exists = c.requires.exists; at = c.site_of-site.ensures } in
    site_there here c.requires.replay.is

pub returns-clause-kept : goal.returns-clause-kept
returns-clause-kept c = λ before kept none.
    let here : IsCallHere (plain_workload c.args.c.now) c.args.plan.now c.args.call c.site_of-site.result =
    record { accepted = c.requires.accepted; plan = c.requires.plan; exists = c.requires.exists; at = c.site_of-site.ensures } in
    let step =
    lent_step (c.in_ok-step.ensures _ kept) c.as_slice-deltas.result.now c.as_slice-written.result.now c.as_slice-deltas.ensures c.as_slice-written.ensures in
    let stop = stop_there here kept step c.as_slice.result.now (option_map plain_stop c.in_ok-stop.stop) c.as_slice.ensures.value c.in_ok-stop.ensures in
    let nothing = sym stop ∙ ap (option_map plain_stop) (none_is c.in_ok-stop.stop (sym c.if-is_some.ensures)) in
    let raises = c.raise_all.ensures (visits (plain_workload c.args.c.now) c.args.plan.now.base.items before) in
    let count = raised_count here kept step nothing c.as_mut_slice.result.now c.raise_all.new.rooms c.as_mut_slice.ensures.value raises in
    let next : Replay = record { deltas = c.put.new.deltas; rooms = with_items c.args.self.now.rooms c.raise_all.new.rooms } in
    let rooms : next.rooms.items ≡ c.raise_all.new.rooms =
    with_items_is c.args.self.now.rooms c.raise_all.new.rooms (omega (arith, count, ap length c.as_mut_slice.ensures.value, c.args.self.now.rooms.ok.0)) in
    goes_on_there here kept step nothing c.as_mut_slice.result.now c.raise_all.new.rooms next c.in_ok-step.step.deltas c.as_mut_slice.ensures.value raises
    rooms c.put.ensures (sym c.as_slice-deltas.ensures)

pub returns-clause-stop : goal.returns-clause-stop
returns-clause-stop c = λ before kept.
    let here : IsCallHere (plain_workload c.args.c.now) c.args.plan.now c.args.call c.site_of-site.result =
    record { accepted = c.requires.accepted; plan = c.requires.plan; exists = c.requires.exists; at = c.site_of-site.ensures } in
    let step =
    lent_step (c.in_ok-step.ensures _ kept) c.as_slice-deltas.result.now c.as_slice-written.result.now c.as_slice-deltas.ensures c.as_slice-written.ensures in
    sym (ap (option_map plain_stop) (none_is c.in_ok-stop.stop (sym c.if-is_some.ensures)))
    ∙ stop_there here kept step c.as_slice.result.now (option_map plain_stop c.in_ok-stop.stop) c.as_slice.ensures.value c.in_ok-stop.ensures
