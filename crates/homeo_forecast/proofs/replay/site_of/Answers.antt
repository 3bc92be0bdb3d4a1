-- The site of the call's ground call is the call's.
use Rattle.homeo_syntax.specs.SourceView.{plain_workload}
use Rattle.homeo_build.proofs.GroundCalls.{ground_below}
use Rattle.homeo_forecast.proofs.Sites.{ground_site}
use Rattle.homeo_forecast.proofs.replay.site_of.Goals as goal

pub bounds-calls-place : goal.bounds-calls-place
bounds-calls-place c = ground_below (plain_workload c.args.c.now) c.calls.result.now c.place-place.result c.calls.ensures c.place-place.ensures.within

pub returns : goal.returns
returns c =
    ground_site (plain_workload c.args.c.now) c.args.call c.place-place.result c.calls.result.now c.index-calls-place.result c.calls.ensures
    c.place-place.ensures.within c.place-place.ensures.place c.index-calls-place.is
