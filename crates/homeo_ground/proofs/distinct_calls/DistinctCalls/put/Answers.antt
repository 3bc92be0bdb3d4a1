-- A call that is known has the place of its key, and another is put.
use Rattle.std.proofs.Common.{true, refl, sym}
use Rattle.homeo_ground.proofs.Keys.{absent, place-found, calls-put}
use Rattle.homeo_ground.proofs.distinct_calls.DistinctCalls.put.Goals as goal

pub put_new-requires-clause-new : goal.put_new-requires-clause-new
put_new-requires-clause-new c =
    let old = c.args.self.now in
    absent old.keys.keys old.calls.items c.put.new.self c.args.call c.requires c.in_ok-put.ensures c.in-None.ensures.found

pub returns-in-Some-clause-calls : goal.returns-in-Some-clause-calls
returns-in-Some-clause-calls c =
    let old = c.args.self.now in
    calls-put old.keys.keys old.calls.items c.put.new.self c.args.call c.requires c.in_ok-put.ensures old.calls.items true (sym c.in-Some.ensures.found) refl

pub returns-in-Some-clause-place : goal.returns-in-Some-clause-place
returns-in-Some-clause-place c =
    let old = c.args.self.now in
    place-found old.keys.keys old.calls.items c.put.new.self c.args.call c.requires c.in_ok-put.ensures c.in-Some.place c.in-Some.ensures.index
