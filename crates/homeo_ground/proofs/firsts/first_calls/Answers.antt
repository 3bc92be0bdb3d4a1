-- The new calls of the clients so far are the first calls.
use Rattle.std.proofs.Common.{◌<◌, [], ◌∙◌, ap, map, sym, subst}
use Rattle.homeo_ground.specs.Sited.{sited}
use Rattle.homeo_ground.proofs.Calls.{no-calls, all_calls-step}
use Rattle.homeo_ground.proofs.FirstPlaces.{rows_long, row_of}
use Rattle.homeo_ground.proofs.firsts.first_calls.Goals as goal

pub loop-i-init : goal.loop-i-init
loop-i-init c = ap (map sited) c.new-firsts.ensures.items ∙ no-calls []

pub bounds-places-i : goal.bounds-places-i
bounds-places-i c = subst (λ n. c.loop-i.i < n) (sym (rows_long c.args.clients.now c.args.places.now c.requires)) c.loop-i-test.true

pub push_firsts-requires : goal.push_firsts-requires
push_firsts-requires c =
    row_of c.args.clients.now c.args.places.now c.requires c.loop-i.i c.index-clients-i.result c.loop-i-test.true c.index-clients-i.is
    c.index-places-i.result c.index-places-i.is c.as_slice.result.now c.as_slice.ensures.value _ c.loop-i.invariant

pub loop-i-preserved : goal.loop-i-preserved
loop-i-preserved c =
    all_calls-step c.args.clients.now c.loop-i.i c.index-clients-i.result c.loop-i-test.true c.index-clients-i.is _ _ c.loop-i.invariant c.in_ok-push_firsts.ensures
