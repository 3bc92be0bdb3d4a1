-- A history whose last database is within bounds can be reported: it has a value for each object.
use Rattle.std.proofs.Common.{◌≡◌, ℕ, zero, suc, List, [], ◌∷◌, map, length, length-append, add-one, refl, sym, ap, ◌∙◌, arith}
use Rattle.std.specs.List.{flat_map}
use Rattle.std.proofs.lemmas.List.{length-map}
use Rattle.homeo_syntax.specs.Source as s
use Rattle.homeo_meaning.specs.Key.{definitions as meaning_definitions}
use Rattle.homeo_meaning.specs.Schema.{Declared, declared_object, declared_range, declared_relation, nat_of, schema_of}
use Rattle.homeo_meaning.specs.Bounds.{bounds_of, slot_bounds, relation_bounds, all_bounds, IsWithin}
use Rattle.homeo_meaning.proofs.Within.{length_in}
use Rattle.homeo_history.specs.History.{History}
use Rattle.homeo_print.specs.Key.{definitions as print_definitions}
use Rattle.homeo_print.specs.Names.{declared_names, slot_names, relation_names, object_names}
use Rattle.homeo_print.proofs.NamedObjects.{first_names, first_names_more, length_slot_names, relation_names_are, length_declared}
use Rattle.homeo_report.specs.Report.{CanReport}

slots_alike : (w : s.Workload) (r : s.RelationDecl) (n : ℕ) → length (slot_bounds n (map declared_range r.fields)) ≡ length (first_names w r n)
unfolding meaning_definitions
slots_alike w r zero = refl
slots_alike w r (suc n) =
    let fields : List Declared = map declared_range r.fields in
    let names = ap length (ap (first_names w r) (sym (add-one n)) ∙ first_names_more w r n) in
    omega (
      arith,
      names,
      length-append (first_names w r n) (slot_names w r n),
      length_slot_names w r n,
      slots_alike w r n,
      length-append (map bounds_of fields) (slot_bounds n fields),
      length-map fields bounds_of,
      length-map r.fields declared_range,
    )

relations_alike : (w : s.Workload) (relations : List s.RelationDecl) → length (relation_bounds (map declared_relation relations)) ≡ length (flat_map (relation_names w) relations)
unfolding meaning_definitions
relations_alike w [] = refl
relations_alike w (r ∷ relations) =
    omega (
      arith,
      length-append (slot_bounds (nat_of r.slots.value) (map declared_range r.fields)) (relation_bounds (map declared_relation relations)),
      length-append (relation_names w r) (flat_map (relation_names w) relations),
      relations_alike w relations,
      slots_alike w r (nat_of r.slots.value),
      ap length (relation_names_are w r),
    )

pub length_object_bounds : (w : s.Workload) → length (all_bounds (schema_of w)) ≡ length (object_names w)
unfolding print_definitions meaning_definitions
length_object_bounds w =
    let objects : List Declared = map declared_object w.objects in
    omega (
      arith,
      length-append (map bounds_of objects) (relation_bounds (map declared_relation w.relations)),
      length-map objects bounds_of,
      length-map w.objects declared_object,
      length-append (declared_names w w.objects) (flat_map (relation_names w) w.relations),
      length_declared w w.objects,
      relations_alike w w.relations,
    )

pub can_report : (w : s.Workload) (h : History) → IsWithin (schema_of w) h.last → CanReport w h
unfolding meaning_definitions
can_report w h within = record { values = length_in (all_bounds (schema_of w)) h.last within ∙ length_object_bounds w }
