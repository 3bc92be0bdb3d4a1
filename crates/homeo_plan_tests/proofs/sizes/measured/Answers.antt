-- So few slots of one field each, beside one object, are few objects.
use Rattle.std.proofs.Common.{◌≡◌, ◌≤◌, ◌+◌, ◌*◌, ℕ, All, [], ◌∷◌, map, pos, length, sym, ap₂, ◌∙◌, subst, arith}
use Rattle.std.proofs.lemmas.List.{length-map}
use Rattle.std.proofs.lemmas.List.Elements.{All-nil, All-cons}
use Rattle.std.proofs.lemmas.Result.{IfOk-at_ok}
use Rattle.homeo_syntax.specs.Key.{definitions as syntax_definitions}
use Rattle.homeo_syntax.specs.SourceView.{plain_relation, plain_workload}
use Rattle.homeo_syntax.specs.declared.workload.RelationDecl.{RelationDecl}
use Rattle.homeo_syntax.specs.declared.workload.Workload.{Workload}
use Rattle.homeo_meaning.specs.Key.{definitions as meaning_definitions}
use Rattle.homeo_meaning.specs.Context.{object_count}
use Rattle.homeo_meaning.specs.Schema.{Schema, declared_object, declared_range, declared_relation, nat_of, schema_of}
use Rattle.homeo_context.specs.Placed.{HasSlots}
use Rattle.homeo_desugar.specs.SchemaFits.{SchemaFits}
use Rattle.homeo_plan_tests.proofs.sizes.measured.Goals as goal

one_slotted : (w : Workload) (r : RelationDecl) (slots : ℕ) → w.relations.items ≡ r ∷ [] → r.slots.value ≡ pos slots → 1 ≤ slots → slots ≤ 64 → All HasSlots w.relations.items
unfolding meaning_definitions
one_slotted w r slots is s l m =
    let here : HasSlots r = record { least = subst (λ v. 1 ≤ nat_of v) (sym s) l; most = subst (λ v. nat_of v ≤ 64) (sym s) m } in
    subst (All HasSlots) (sym is) (All-cons HasSlots r [] here (All-nil HasSlots))

few : (w : Workload) (r : RelationDecl) (slots : ℕ) → w.relations.items ≡ r ∷ [] → length w.objects.items ≡ 1 → r.slots.value ≡ pos slots → length r.fields.items ≡ 1 → slots ≤ 64 → object_count (length w.objects.items) (map declared_relation (map plain_relation w.relations.items)) ≤ 1024
unfolding syntax_definitions meaning_definitions
few w r slots is o s f h =
    let size : nat_of r.slots.value * (1 + length (map declared_range r.fields.items)) ≡ slots * 2 = ap₂ (λ v n. nat_of v * (1 + n)) s (length-map r.fields.items declared_range ∙ f) in
    let all : 1 + nat_of r.slots.value * (1 + length (map declared_range r.fields.items)) ≤ 1024 = subst (λ n. 1 + n ≤ 1024) (sym size) (omega (arith, h)) in
    subst (λ n. n ≤ 1024) (sym (λ i. object_count (o i) (map declared_relation (map plain_relation (is i))))) all

pub of-requires-clause-slots : goal.of-requires-clause-slots
of-requires-clause-slots g c =
    one_slotted c.workload-workload.result c.relation-relation.result c.args.slots c.workload-workload.ensures.relations c.relation-relation.ensures.slots c.requires.least c.requires.most

pub of-requires-clause-few : goal.of-requires-clause-few
of-requires-clause-few g c =
    few c.workload-workload.result c.relation-relation.result c.args.slots c.workload-workload.ensures.relations c.workload-workload.ensures.objects c.relation-relation.ensures.slots c.relation-relation.ensures.fields c.requires.most

few_fit : (w : Workload) (x : Schema) → x ≡ schema_of (plain_workload w) → object_count (length w.objects.items) (map declared_relation (map plain_relation w.relations.items)) ≤ 1024 → SchemaFits x
unfolding syntax_definitions meaning_definitions
few_fit w x is h =
    let counted : object_count (length (map declared_object w.objects.items)) (map declared_relation (map plain_relation w.relations.items)) ≤ 1024 = subst (λ n. object_count n (map declared_relation (map plain_relation w.relations.items)) ≤ 1024) (sym (length-map w.objects.items declared_object)) h in
    subst SchemaFits (sym is) (omega (arith, counted))

pub measured_form-requires : goal.measured_form-requires
measured_form-requires g c =
    let w = c.workload-workload.result in
    let laid : c.expect-layout.result ≡ schema_of (plain_workload w) = IfOk-at_ok _ c.expect-layout.ensures c.of.ensures in
    few_fit w c.expect-layout.result laid (few w c.relation-relation.result c.args.slots c.workload-workload.ensures.relations c.workload-workload.ensures.objects c.relation-relation.ensures.slots c.relation-relation.ensures.fields c.requires.most)
