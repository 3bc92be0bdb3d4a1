-- The call that is put last is the first of its ground call.
use Rattle.std.proofs.Common.{false, ap, ◌∙◌, sym}
use Rattle.homeo_meaning.specs.CallPlaces.{place_among}
use Rattle.homeo_ground.specs.Sited.{sited}
use Rattle.homeo_ground.specs.inner.Keys.{sited_all}
use Rattle.homeo_ground.proofs.Distinct.{put-place}
use Rattle.homeo_ground.proofs.Keys.{there, keys-stand, calls-put, place-is}
use Rattle.homeo_ground.proofs.distinct_calls.DistinctCalls.put_new.Goals as goal

pub returns-clause-keys : goal.returns-clause-keys
returns-clause-keys c =
    let old = c.args.self.now in
    let key = c.in_ok-key in
    let absent = there old.keys.keys old.calls.items key.key c.args.call c.requires.keys key.ensures ∙ c.requires.new in
    keys-stand old.keys.keys old.calls.items key.key c.args.call c.requires.keys key.ensures _ false absent c.in_ok-push.ensures.items _ c.in_ok-place.ensures.keys

pub returns-clause-calls : goal.returns-clause-calls
returns-clause-calls c =
    let old = c.args.self.now in
    let key = c.in_ok-key in
    let absent = there old.keys.keys old.calls.items key.key c.args.call c.requires.keys key.ensures ∙ c.requires.new in
    calls-put old.keys.keys old.calls.items key.key c.args.call c.requires.keys key.ensures _ false absent c.in_ok-push.ensures.items

pub returns-clause-place : goal.returns-clause-place
returns-clause-place c =
    let old = c.args.self.now in
    let key = c.in_ok-key in
    c.in_ok-place.ensures.index
    ∙ place-is old.keys.keys old.calls.items key.key c.args.call c.requires.keys key.ensures
    ∙ sym (put-place (sited_all old) (sited c.args.call))
    ∙ ap (λ l. place_among l (sited c.args.call)) (sym (returns-clause-calls c))
