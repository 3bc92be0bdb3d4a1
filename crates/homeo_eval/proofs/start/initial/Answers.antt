use Rattle.std.proofs.Common.{All, ℤ, List, map, ◌++◌, take, refl, sym, ap, subst, ◌∙◌}
use Rattle.std.proofs.lemmas.List.{append-nil, take_all}
use Rattle.std.proofs.lemmas.Simd.{map-map}
use Rattle.homeo_lemmas.proofs.Lists.{map_take_more}
use Rattle.homeo_syntax.specs.Key.{definitions as syntax_definitions}
use Rattle.homeo_syntax.specs.SourceView.{plain_relation, plain_workload}
use Rattle.homeo_meaning.specs.Key.{definitions}
use Rattle.homeo_meaning.specs.Schema.{declared_relation, schema_of}
use Rattle.homeo_meaning.specs.Bounds.{IsWithin}
use Rattle.homeo_meaning.specs.Initial.{slot_starts, relation_starts}
use Rattle.homeo_context.specs.Placed.{HasSlots}
use Rattle.homeo_context.proofs.Placing.{have_slots}
use Rattle.homeo_meaning.proofs.Sound.{sound}
use Rattle.homeo_eval.proofs.StartLists.{relation_next}
use Rattle.homeo_eval.proofs.start.initial.Goals as goal

pub loop-relation-init : goal.loop-relation-init
unfolding definitions
loop-relation-init c =
    c.loop-object.invariant
    ∙ ap (map (λ d. d.start.value)) (take_all _ _ c.loop-object-test.false ∙ c.as_slice-object-items.ensures ∙ ap (λ w. w.objects.items) c.workload-workload.ensures.value)
    ∙ sym (append-nil (map (λ d. d.start.value) c.args.w.now.objects.items))

pub start_relation-requires : goal.start_relation-requires
unfolding definitions syntax_definitions
start_relation-requires c =
    let items = c.as_slice-relation-items.ensures ∙ ap (λ w. w.relations.items) c.workload-workload.ensures.value in
    let all = have_slots c.args.w.now.relations.items (sound (plain_workload c.args.w.now) c.workload-workload.ensures.accepted).slots in
    subst HasSlots (sym c.relation-item.is) (subst (All HasSlots) (sym items) all c.loop-relation.relation-index c.relation-item.result c.loop-relation-test.true)

pub loop-relation-preserved : goal.loop-relation-preserved
unfolding definitions syntax_definitions
loop-relation-preserved c =
    let before : List ℤ = map (λ d. d.start.value) c.args.w.now.objects.items in
    let xs = c.as_slice-relation-items.result.now in
    relation_next slot_starts relation_starts refl (λ r rs. refl) before c.loop-relation.database.items c.start_relation.new.database.items (map (λ q. declared_relation (plain_relation q)) (take c.loop-relation.relation-index xs)) (declared_relation (plain_relation c.relation-item.result)) c.loop-relation.invariant c.in_ok-start_relation.ensures
    ∙ ap (λ l. before ++ relation_starts l) (sym (map_take_more (λ q. declared_relation (plain_relation q)) xs c.loop-relation.relation-index c.relation-item.result c.loop-relation-test.true c.relation-item.is))

pub returns-clause-value : goal.returns-clause-value
unfolding definitions syntax_definitions
returns-clause-value c =
    let before : List ℤ = map (λ d. d.start.value) c.args.w.now.objects.items in
    let items = c.as_slice-relation-items.ensures ∙ ap (λ w. w.relations.items) c.workload-workload.ensures.value in
    c.loop-relation.invariant
    ∙ ap (λ l. before ++ relation_starts l) (ap (map (λ q. declared_relation (plain_relation q))) (take_all _ _ c.loop-relation-test.false ∙ items) ∙ sym (map-map declared_relation plain_relation c.args.w.now.relations.items))

pub returns-clause-within : goal.returns-clause-within
returns-clause-within c =
    subst (IsWithin (schema_of (plain_workload c.args.w.now))) (sym (returns-clause-value c)) (sound (plain_workload c.args.w.now) c.workload-workload.ensures.accepted).starts
