use Rattle.std.proofs.Common.{rules, ◌+◌, ◌*◌, ◌≤◌, length, map, refl, sym, ap, subst, ◌∙◌, arith}
use Rattle.std.specs.Int.RustNames.{unsigned_abs}
use Rattle.std.proofs.Common.{w64, to_z, of_z}
use Rattle.std.proofs.Common.{◌≡◌, Fits}
use Rattle.std.proofs.lemmas.List.{take_all}
use Rattle.std.proofs.lemmas.Simd.{map-map}
use Rattle.homeo_syntax.specs.SourceView.{plain_relation}
use Rattle.homeo_meaning.specs.Key.{definitions}
use Rattle.homeo_meaning.specs.Schema.{nat_of, declared_relation}
use Rattle.homeo_meaning.specs.Context.{object_count}
use Rattle.homeo_context.specs.Placed.{placed_relation, StandFrom, HasSlots}
use Rattle.homeo_context.proofs.Placing.{slots_are, next_few, place_step}
use Rattle.homeo_context.proofs.declarations.place_relations.Goals as goal

pub loop-relation-init : goal.loop-relation-init
unfolding definitions
loop-relation-init c = record {
  placed = ap (map placed_relation) c.new-places.ensures.items;
  stand = subst (StandFrom c.args.first) (sym c.new-places.ensures.items) tt;
  next = sym (ap (λ l. object_count c.args.first (map placed_relation l)) c.new-places.ensures.items);
}

pub overflow_mul-next : goal.overflow_mul-next
overflow_mul-next c =
    let first = c.args.first in
    let rs = c.args.relations.now in
    let i = c.loop-relation.relation-index in
    let r = c.relation-item.result in
    let has : HasSlots r = subst HasSlots (sym c.relation-item.is) (c.requires.slots i r c.loop-relation-test.true) in
    let slots = slots_are r has (search rules) in
    let len : c.len-width.result ≡ length c.in_ok-fields.fields.items = search rules in
    let fields = c.in_ok-fields.ensures.items ∙ c.as_slice.ensures in
    let width = len ∙ ap length fields in
    let few : c.loop-relation.next + nat_of r.slots.value * (1 + length r.fields.items) ≤ 1024 = next_few first rs i r c.loop-relation.places.items c.loop-relation.next c.loop-relation-test.true c.relation-item.is c.loop-relation.invariant.placed c.loop-relation.invariant.next c.requires.few in
    subst (Fits w64) (sym (λ j. slots j * (1 + width j))) (omega (arith, few))

pub overflow_add-next : goal.overflow_add-next
overflow_add-next c =
    let first = c.args.first in
    let rs = c.args.relations.now in
    let i = c.loop-relation.relation-index in
    let r = c.relation-item.result in
    let has : HasSlots r = subst HasSlots (sym c.relation-item.is) (c.requires.slots i r c.loop-relation-test.true) in
    let slots = slots_are r has (search rules) in
    let len : c.len-width.result ≡ length c.in_ok-fields.fields.items = search rules in
    let fields = c.in_ok-fields.ensures.items ∙ c.as_slice.ensures in
    let width = len ∙ ap length fields in
    let few : c.loop-relation.next + nat_of r.slots.value * (1 + length r.fields.items) ≤ 1024 = next_few first rs i r c.loop-relation.places.items c.loop-relation.next c.loop-relation-test.true c.relation-item.is c.loop-relation.invariant.placed c.loop-relation.invariant.next c.requires.few in
    subst (Fits w64) (sym (λ j. c.loop-relation.next + slots j * (1 + width j))) (omega (arith, few))

pub loop-relation-preserved : goal.loop-relation-preserved
loop-relation-preserved c =
    let first = c.args.first in
    let rs = c.args.relations.now in
    let i = c.loop-relation.relation-index in
    let r = c.relation-item.result in
    let has : HasSlots r = subst HasSlots (sym c.relation-item.is) (c.requires.slots i r c.loop-relation-test.true) in
    let slots = slots_are r has (search rules) in
    let len : c.len-width.result ≡ length c.in_ok-fields.fields.items = search rules in
    let fields = c.in_ok-fields.ensures.items ∙ c.as_slice.ensures in
    let step = place_step first rs i r c.loop-relation.places.items c.loop-relation.next _ _ c.push.new.self.items c.loop-relation-test.true c.relation-item.is c.loop-relation.invariant.placed c.loop-relation.invariant.stand c.loop-relation.invariant.next c.requires.few c.in_ok-push.ensures.items refl refl slots fields
    (ap (λ n. c.loop-relation.next + unsigned_abs (to_z w64 (of_z w64 r.slots.value)) * (1 + n)) len) in
    record { placed = step.placed; stand = step.stand; next = step.at }

pub returns-clause-relations : goal.returns-clause-relations
returns-clause-relations c =
    c.loop-relation.invariant.placed
    ∙ ap (map (λ q. declared_relation (plain_relation q))) (take_all _ _ c.loop-relation-test.false)
    ∙ sym (map-map declared_relation plain_relation c.args.relations.now)
