-- What the calls so far leave gives the forecast, where one stops or where they end.
use Rattle.std.proofs.Common.{List, take, sym, ap, subst}
use Rattle.homeo_lemmas.proofs.Options.{none_is}
use Rattle.homeo_syntax.specs.SourceView.{plain_workload}
use Rattle.homeo_meaning.specs.declared.call.CallId.{CallId}
use Rattle.homeo_meaning.specs.Calls.{CallExists}
use Rattle.homeo_forecast.specs.declared.replay.Replay.{Replay}
use Rattle.homeo_forecast.specs.inner.Replays.{CanBound}
use Rattle.homeo_forecast.proofs.ForecastSteps.{begun_at, can_bound, kept_on, stopped_there, all_kept}
use Rattle.homeo_forecast.proofs.Lists.{each_there}
use Rattle.homeo_forecast.proofs.forecasting.forecast_on.Goals as goal

abbrev none : CallId
none = record { client = 0; seq = 0 }

pub loop-kept-init : goal.loop-kept-init
loop-kept-init c =
    begun_at (plain_workload c.args.c.now) c.args.plan.now c.in_ok-replay.replay c.requires.accepted c.requires.plan c.in_ok-replay.ensures.deltas
    c.in_ok-replay.ensures.rooms

pub call-requires-clause-exists : goal.call-requires-clause-exists
call-requires-clause-exists c =
    each_there (λ call. CallExists (plain_workload c.args.c.now) call) c.args.calls.now c.loop-kept.kept none c.loop-kept-test.true c.requires.exist

pub call-requires-clause-replay : goal.call-requires-clause-replay
call-requires-clause-replay c = record { calls = take c.loop-kept.kept c.args.calls.now; is = c.loop-kept.invariant }

pub config-requires : goal.config-requires
config-requires c =
    subst (λ (r : Replay). CanBound r.rooms.items) (sym (c.in_ok-stop.ensures.unchanged (sym c.if-is_some.ensures)))
    (can_bound (plain_workload c.args.c.now) c.args.plan.now.base.items c.args.calls.now c.requires.accepted c.requires.exist _ c.loop-kept.replay
    c.loop-kept.invariant)

pub returns-then-is_some : goal.returns-then-is_some
returns-then-is_some c =
    let calls : List CallId = c.args.calls.now in
    let n = c.loop-kept.kept in
    stopped_there (plain_workload c.args.c.now) c.args.plan.now.base.items calls c.requires.accepted c.requires.exist n none c.loop-kept.replay
    c.call.new.self.rooms.items _ c.in_ok-stop.stop c.loop-kept-test.true c.loop-kept.invariant (sym c.if-is_some.ensures)
    (c.in_ok-stop.ensures.stop (take n calls) c.loop-kept.invariant) c.in_ok-config.ensures
    (ap (λ (r : Replay). r.rooms.items) (c.in_ok-stop.ensures.unchanged (sym c.if-is_some.ensures)))

pub loop-kept-preserved : goal.loop-kept-preserved
loop-kept-preserved c =
    let calls : List CallId = c.args.calls.now in
    let n = c.loop-kept.kept in
    kept_on (plain_workload c.args.c.now) c.args.plan.now.base.items calls c.requires.accepted c.requires.exist n none c.call.new.self c.loop-kept-test.true
    (c.in_ok-stop.ensures.kept (take n calls) c.loop-kept.invariant (none_is c.in_ok-stop.stop (sym c.if-is_some.ensures)))

pub config-requires-2 : goal.config-requires-2
config-requires-2 c =
    can_bound (plain_workload c.args.c.now) c.args.plan.now.base.items c.args.calls.now c.requires.accepted c.requires.exist _ c.loop-kept.replay
    c.loop-kept.invariant

pub returns : goal.returns
returns c =
    all_kept (plain_workload c.args.c.now) c.args.plan.now.base.items c.args.calls.now c.requires.accepted c.requires.exist c.loop-kept.kept
    c.loop-kept.replay _ c.loop-kept-test.false c.loop-kept.invariant c.in_ok-config-2.ensures
