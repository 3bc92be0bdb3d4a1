-- A call's place is where its client's row has it.
use Rattle.std.proofs.Common.{rules, ap}
use Rattle.homeo_ground.proofs.Places.{client_within, counted, call_within, place_is, place_within, place_fits}
use Rattle.homeo_ground.proofs.grounding.Grounding.place.Goals as goal

pub index-requires : goal.index-requires
index-requires c =
    let h = client_within c.args.self.now c.args.call c.self.inside.places.items (ap (λ t. t.places) c.self.view_is) c.requires.exists in
    let ok = c.self.inside.places.ok in
    search rules

pub overflow_sub-result : goal.overflow_sub-result
overflow_sub-result c = counted c.args.self.now c.args.call c.self.inside.places.items (ap (λ t. t.places) c.self.view_is) c.requires.exists

pub bounds-places-call : goal.bounds-places-call
bounds-places-call c =
    call_within c.args.self.now c.args.call c.self.inside.places.items (ap (λ t. t.places) c.self.view_is) c.requires.exists c.index.result.now c.index.ensures c.as_slice-places.result.now c.as_slice-places.ensures.value

pub offset_bounds-places-call : goal.offset_bounds-places-call
offset_bounds-places-call c =
    let h = call_within c.args.self.now c.args.call c.self.inside.places.items (ap (λ t. t.places) c.self.view_is) c.requires.exists c.index.result.now c.index.ensures c.as_slice-places.result.now c.as_slice-places.ensures.value in
    let k = c.as_slice-places.type_inv in
    search rules

pub overflow_cast-result : goal.overflow_cast-result
overflow_cast-result c =
    let h = place_fits c.args.self.now c.args.call c.self.inside.places.items (ap (λ t. t.places) c.self.view_is) c.requires.exists c.index.result.now c.index.ensures c.as_slice-places.result.now c.as_slice-places.ensures.value c.self.inside.calls.items (ap (λ t. t.calls) c.self.view_is) c.self.invariant in
    search rules

pub returns-clause-within : goal.returns-clause-within
returns-clause-within c =
    place_within c.args.self.now c.args.call c.self.inside.places.items (ap (λ t. t.places) c.self.view_is) c.requires.exists c.index.result.now c.index.ensures c.as_slice-places.result.now c.as_slice-places.ensures.value

pub returns-clause-place : goal.returns-clause-place
returns-clause-place c =
    place_is c.args.self.now c.args.call c.self.inside.places.items (ap (λ t. t.places) c.self.view_is) c.requires.exists c.index.result.now c.index.ensures c.as_slice-places.result.now c.as_slice-places.ensures.value
