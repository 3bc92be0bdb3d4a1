-- A name that is there is set.
use Rattle.std.proofs.Common.{◌≡◌, ◌<◌, true, length, set, map, refl, sym, ap, subst, ◌∙◌, w64, to_z, of_z}
use Rattle.std.proofs.lemmas.Int.{to_z-of_z}
use Rattle.std.proofs.lemmas.List.{length-set}
use Rattle.std.specs.Vec.{with_item}
use Rattle.homeo_meaning.specs.Key.{definitions as meaning_definitions}
use Rattle.homeo_meaning.specs.LowMeaning.{location_of, put}
use Rattle.homeo_split.specs.Key.{definitions}
use Rattle.homeo_split.specs.States.{temps_of, state_with}
use Rattle.homeo_split.specs.inner.States.{plain_state, state_shape}
use Rattle.homeo_split.specs.Shape.{has_place}
use Rattle.homeo_split.proofs.States.{has_base, set_base, site_is, object_is, same_lengths, set_site}
use Rattle.homeo_split.proofs.state.StateStore.write.Goals as goal

pub index_mut-requires : goal.index_mut-requires
unfolding definitions
index_mut-requires c =
    let has = subst (λ x. has_place (state_shape c.args.self.now) x ≡ true) c.in-Whole.is c.requires in
    subst (λ n. c.in-Whole.object < n) (sym c.args.self.now.base.ok.0) (has_base (state_shape c.args.self.now) c.in-Whole.object has)

pub index_mut-requires-in-Base : goal.index_mut-requires-in-Base
unfolding definitions
index_mut-requires-in-Base c =
    let has = subst (λ x. has_place (state_shape c.args.self.now) x ≡ true) c.in-Base.is c.requires in
    subst (λ n. c.in-Base.object < n) (sym c.args.self.now.base.ok.0) (has_base (state_shape c.args.self.now) c.in-Base.object has)

pub returns-in-Whole-clause-leads : goal.returns-in-Whole-clause-leads
unfolding definitions
returns-in-Whole-clause-leads c =
    let s = c.args.self.now in
    λ i. record { base = length-set s.base.items c.in-Whole.object (to_z w64 (of_z w64 c.args.v)) i; deltas = map (λ d. length d.items) s.deltas.items }

pub returns-in-Base-clause-leads : goal.returns-in-Base-clause-leads
unfolding definitions
returns-in-Base-clause-leads c =
    let s = c.args.self.now in
    λ i. record { base = length-set s.base.items c.in-Base.object (to_z w64 (of_z w64 c.args.v)) i; deltas = map (λ d. length d.items) s.deltas.items }

pub returns-in-Whole-clause-set : goal.returns-in-Whole-clause-set
unfolding definitions meaning_definitions
returns-in-Whole-clause-set c =
    let s = c.args.self.now in
    let x = c.in-Whole.object in
    let ds = map (λ d. d.items) s.deltas.items in
    let has = subst (λ x. has_place (state_shape s) x ≡ true) c.in-Whole.is c.requires in
    ap (λ v. state_with (set s.base.items x v) ds (temps_of s.temporaries)) (to_z-of_z w64 c.args.v c.ranges.v)
    ∙ set_base s.base.items ds (temps_of s.temporaries) x c.args.v (has_base (state_shape s) x has)
    ∙ ap (λ x. put (plain_state s) (location_of x) c.args.v) (sym c.in-Whole.is)

pub returns-in-Base-clause-set : goal.returns-in-Base-clause-set
unfolding definitions meaning_definitions
returns-in-Base-clause-set c =
    let s = c.args.self.now in
    let x = c.in-Base.object in
    let ds = map (λ d. d.items) s.deltas.items in
    let has = subst (λ x. has_place (state_shape s) x ≡ true) c.in-Base.is c.requires in
    ap (λ v. state_with (set s.base.items x v) ds (temps_of s.temporaries)) (to_z-of_z w64 c.args.v c.ranges.v)
    ∙ set_base s.base.items ds (temps_of s.temporaries) x c.args.v (has_base (state_shape s) x has)
    ∙ ap (λ x. put (plain_state s) (location_of x) c.args.v) (sym c.in-Base.is)

pub index_mut-requires-in-Delta : goal.index_mut-requires-in-Delta
unfolding definitions
index_mut-requires-in-Delta c =
    let s = c.args.self.now in
    let has = subst (λ x. has_place (state_shape s) x ≡ true) c.in-Delta.is c.requires in
    subst (λ n. c.in-Delta.site < n) (sym s.deltas.ok.0) (site_is (λ d. d.items) s.deltas.items c.in-Delta.object c.in-Delta.site (length s.base.items) has)

pub index_mut-requires-in-Delta-2 : goal.index_mut-requires-in-Delta-2
unfolding definitions
index_mut-requires-in-Delta-2 c =
    let s = c.args.self.now in
    let here = c.index_mut-in-Delta.result.now in
    let has = subst (λ x. has_place (state_shape s) x ≡ true) c.in-Delta.is c.requires in
    subst (λ n. c.in-Delta.object < n) (sym here.ok.0) (object_is (λ d. d.items) s.deltas.items c.in-Delta.object c.in-Delta.site (length s.base.items) has here c.index_mut-in-Delta.ensures.value)

pub returns-in-Delta-clause-leads : goal.returns-in-Delta-clause-leads
unfolding definitions
returns-in-Delta-clause-leads c =
    let s = c.args.self.now in
    let here = c.index_mut-in-Delta.result.now in
    let new = with_item here c.in-Delta.object (to_z w64 (of_z w64 c.args.v)) in
    λ i. record { base = length s.base.items; deltas = same_lengths (λ d. d.items) s.deltas.items c.in-Delta.object c.in-Delta.site here c.index_mut-in-Delta.ensures.value new (to_z w64 (of_z w64 c.args.v)) refl i }

pub returns-in-Delta-clause-set : goal.returns-in-Delta-clause-set
unfolding definitions meaning_definitions
returns-in-Delta-clause-set c =
    let s = c.args.self.now in
    let here = c.index_mut-in-Delta.result.now in
    let v = to_z-of_z w64 c.args.v c.ranges.v in
    let new = with_item here c.in-Delta.object (to_z w64 (of_z w64 c.args.v)) in
    let has = subst (λ x. has_place (state_shape s) x ≡ true) c.in-Delta.is c.requires in
    set_site (λ d. d.items) s.deltas.items c.in-Delta.object c.in-Delta.site (length s.base.items) has here c.index_mut-in-Delta.ensures.value new c.args.v (ap (set here.items c.in-Delta.object) v) s.base.items (temps_of s.temporaries)
    ∙ ap (λ x. put (plain_state s) (location_of x) c.args.v) (sym c.in-Delta.is)
