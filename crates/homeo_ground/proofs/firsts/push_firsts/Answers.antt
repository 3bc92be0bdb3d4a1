-- The calls so far that are new stand behind the first calls.
use Rattle.std.proofs.Common.{◌<◌, ◌∙◌, ap, map, sym, subst}
use Rattle.homeo_ground.specs.Sited.{sited}
use Rattle.homeo_ground.proofs.Calls.{sited_at, no-calls, client_calls-whole}
use Rattle.homeo_ground.proofs.FirstPlaces.{places_long, firsts-step, one_more, no_more}
use Rattle.homeo_ground.proofs.firsts.push_firsts.Goals.{then-places-k+in_ok-push, else-places-k}
use Rattle.homeo_ground.proofs.firsts.push_firsts.Goals as goal

pub loop-k-init : goal.loop-k-init
loop-k-init c = no-calls (map sited c.args.firsts.now.items)

pub bounds-places-k : goal.bounds-places-k
bounds-places-k c =
    let long = places_long c.args.client.now c.as_slice-calls.result.now c.as_slice-calls.ensures _ c.args.places.now c.requires in
    subst (λ n. c.loop-k.k < n) (sym long) c.loop-k-test.true

pub loop-k-preserved : goal.loop-k-preserved
loop-k-preserved c =
    let client = c.args.client.now in
    let calls = c.as_slice-calls in
    let firsts = c.loop-k.firsts.items in
    let call = c.index-calls-k in
    let next = firsts-step client calls.result.now calls.ensures _ c.args.places.now c.requires c.loop-k.k call.result c.loop-k-test.true call.is
    (map sited firsts) c.loop-k.invariant 0 (map sited c.if-places-k.firsts.items) in
    elim c.if-places-k.branch [
      | then-places-k+in_ok-push w ↦ next (one_more firsts _ c.len.result (c.len.ensures ∙ c.loop-k.firsts.ok.0) (sited_at client call.result) w.if-places-k.true _ w.of.result (ap (λ v. v.items) w.firsts-is ∙ w.in_ok-push.ensures.items) w.of.ensures)
      | else-places-k w ↦ next (no_more firsts _ c.len.result (c.len.ensures ∙ c.loop-k.firsts.ok.0) (sited_at client call.result) w.if-places-k.false _ (ap (λ v. v.items) w.firsts-is))
    ]

pub returns : goal.returns
returns c = client_calls-whole c.args.client.now c.as_slice-calls.result.now c.loop-k.k _ _ c.as_slice-calls.ensures c.loop-k-test.false c.loop-k.invariant
