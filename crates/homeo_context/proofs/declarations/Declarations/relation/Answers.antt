use Rattle.std.proofs.Common.{ℕ, ◌<◌, ◌+◌, ◌*◌, ◌^◌, map, length, sym, ap, subst, ◌∙◌, arith}
use Rattle.homeo_meaning.specs.Key.{definitions}
use Rattle.homeo_meaning.specs.Schema.{declared_range}
use Rattle.homeo_meaning.specs.Context.{slots_from, find_slots, find_fields}
use Rattle.homeo_context.proofs.Relations.{found_in, nothing_in}
use Rattle.homeo_context.proofs.declarations.Declarations.relation.Goals as goal

pub returns-in-Some-clause-slots : goal.returns-in-Some-clause-slots
unfolding definitions
returns-in-Some-clause-slots c =
    let here = found_in c.self.inside.objects.items c.self.inside.relations.items c.self.inside.relation_places c.args.name c.get.result c.deref.result.now c.in-Some.relation.now c.self.invariant.relations_named c.self.invariant.stand c.get.ensures c.deref.ensures.value c.in-Some.ensures.lookup.3.0 (c.in-Some.ensures.lookup.3.1 _) in
    ap (λ ds. slots_from 0 c.in-Some.relation.now.first (map declared_range ds) c.in-Some.relation.now.slots) c.as_slice.ensures.value
    ∙ sym here.slots
    ∙ ap (λ d. find_slots (length d.schema.objects) d.schema.relations c.args.name) c.self.view_is

pub returns-in-Some-clause-fields : goal.returns-in-Some-clause-fields
unfolding definitions
returns-in-Some-clause-fields c =
    let here = found_in c.self.inside.objects.items c.self.inside.relations.items c.self.inside.relation_places c.args.name c.get.result c.deref.result.now c.in-Some.relation.now c.self.invariant.relations_named c.self.invariant.stand c.get.ensures c.deref.ensures.value c.in-Some.ensures.lookup.3.0 (c.in-Some.ensures.lookup.3.1 _) in
    ap (map declared_range) c.as_slice.ensures.value ∙ sym here.fields ∙ ap (λ d. find_fields d.schema.relations c.args.name) c.self.view_is

pub returns-in-Some-clause-numbered : goal.returns-in-Some-clause-numbered
unfolding definitions
returns-in-Some-clause-numbered c =
    let here = found_in c.self.inside.objects.items c.self.inside.relations.items c.self.inside.relation_places c.args.name c.get.result c.deref.result.now c.in-Some.relation.now c.self.invariant.relations_named c.self.invariant.stand c.get.ensures c.deref.ensures.value c.in-Some.ensures.lookup.3.0 (c.in-Some.ensures.lookup.3.1 _) in
    subst (λ l. c.in-Some.relation.now.first + c.in-Some.relation.now.slots * (1 + length l) < 2 ^ 32) (sym c.as_slice.ensures.value) here.counted

pub returns-in-Some-clause-counted : goal.returns-in-Some-clause-counted
unfolding definitions
returns-in-Some-clause-counted c =
    let few = returns-in-Some-clause-numbered c in
    less few
  where
    less : {n : ℕ} → n < 2 ^ 32 → n < 2 ^ 63
    less h = omega arith

pub returns-in-None-clause-slots : goal.returns-in-None-clause-slots
unfolding definitions
returns-in-None-clause-slots c =
    let none = nothing_in c.self.inside.objects.items c.self.inside.relations.items c.self.inside.relation_places c.args.name c.get.result c.deref.result.now c.self.invariant.relations_named c.get.ensures c.deref.ensures.value c.in-None.ensures.lookup.3 in
    sym none.slots ∙ ap (λ d. find_slots (length d.schema.objects) d.schema.relations c.args.name) c.self.view_is

pub returns-in-None-clause-fields : goal.returns-in-None-clause-fields
unfolding definitions
returns-in-None-clause-fields c =
    let none = nothing_in c.self.inside.objects.items c.self.inside.relations.items c.self.inside.relation_places c.args.name c.get.result c.deref.result.now c.self.invariant.relations_named c.get.ensures c.deref.ensures.value c.in-None.ensures.lookup.3 in
    sym none.fields ∙ ap (λ d. find_fields d.schema.relations c.args.name) c.self.view_is

pub returns-in-None-clause-counted : goal.returns-in-None-clause-counted
unfolding definitions
returns-in-None-clause-counted c = omega arith

pub returns-in-None-clause-numbered : goal.returns-in-None-clause-numbered
unfolding definitions
returns-in-None-clause-numbered c = omega arith
