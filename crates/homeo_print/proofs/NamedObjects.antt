-- The names of objects, with one more.
use Rattle.std.proofs.Common.{◌≡◌, ℕ, ◌+◌, ◌<◌, List, [], ◌∷◌, ◌++◌, map, length, take, get_or, append_assoc, append-nil, zero-add, add-one, refl, sym, ap, ◌∙◌, arith}
use Rattle.std.specs.Prelude.{Vec, Option, Some, None, slice_get, unwrap_or}
use Rattle.std.specs.List.{flat_map, range_with_len}
use Rattle.std.specs.Option.{option_map, option_map_or}
use Rattle.std.proofs.lemmas.Option.{slice_get-map}
use Rattle.std.proofs.lemmas.List.{take_more, map-append, length-map}
use Rattle.std.proofs.lemmas.List.Folds.{flat_map-map}
use Rattle.std.proofs.lemmas.Grind.{flat_map-append}
use Rattle.homeo_lemmas.proofs.Lists.{range_more}
use Rattle.homeo_syntax.specs.Key.{definitions as syntax_definitions}
use Rattle.homeo_syntax.specs.Source as s
use Rattle.homeo_syntax.specs.SourceView.{plain_relation, plain_workload}
use Rattle.homeo_syntax.specs.declared.workload.ObjectDecl.{ObjectDecl}
use Rattle.homeo_syntax.specs.declared.workload.RangeDecl.{RangeDecl}
use Rattle.homeo_syntax.specs.declared.workload.RelationDecl.{RelationDecl}
use Rattle.homeo_syntax.specs.declared.workload.Workload.{Workload}
use Rattle.homeo_meaning.specs.Schema.{nat_of}
use Rattle.homeo_print.specs.Key.{definitions}
use Rattle.homeo_print.specs.Names.{name_text, declared_names, field_name, field_names, slot_names, relation_names, object_names, name_at}
use Rattle.homeo_print.specs.Objects.{bytes_of}

-- ---- declared objects
pub declared_more : (w : s.Workload) (objects : List ObjectDecl) (i : ℕ) (o : ObjectDecl) → i < length objects → declared_names w (take (i + 1) objects) ≡ declared_names w (take i objects) ++ name_text w (get_or objects i o).name ∷ []
unfolding definitions
declared_more w objects i o within =
    ap (declared_names w) (take_more objects i o within) ∙ map-append (λ (p : ObjectDecl). name_text w p.name) (take i objects) (get_or objects i o ∷ [])

pub length_declared : (w : s.Workload) (objects : List ObjectDecl) → length (declared_names w objects) ≡ length objects
unfolding definitions
length_declared w objects = length-map objects (λ (p : ObjectDecl). name_text w p.name)

-- ---- the fields of a slot
pub fields_more : (w : s.Workload) (r : s.RelationDecl) (slot : ℕ) (fields : List RangeDecl) (i : ℕ) (f : RangeDecl) → i < length fields → field_names w r slot (take (i + 1) fields) ≡ field_names w r slot (take i fields) ++ field_name w r slot (name_text w (get_or fields i f).name) ∷ []
unfolding definitions
fields_more w r slot fields i f within =
    ap (field_names w r slot) (take_more fields i f within) ∙ map-append (λ (p : RangeDecl). field_name w r slot (name_text w p.name)) (take i fields) (get_or fields i f ∷ [])

-- ---- the names of a relation's first slots
abbrev pub first_names : s.Workload → s.RelationDecl → ℕ → List (List ℕ)
first_names w r n = flat_map (slot_names w r) (range_with_len 0 n)

pub first_names_more : (w : s.Workload) (r : s.RelationDecl) (n : ℕ) → first_names w r (n + 1) ≡ first_names w r n ++ slot_names w r n
first_names_more w r n =
    rw add-one (ap (flat_map (slot_names w r)) (range_more 0 n) ∙ flat_map-append (slot_names w r) (range_with_len 0 n) ((0 + n) ∷ []) ∙ ap (λ l. first_names w r n ++ l) (append-nil (slot_names w r (0 + n)) ∙ ap (slot_names w r) (zero-add n)))

pub length_slot_names : (w : s.Workload) (r : s.RelationDecl) (k : ℕ) → length (slot_names w r k) ≡ length r.fields + 1
unfolding definitions
length_slot_names w r k = omega (arith, length-map r.fields (λ (p : RangeDecl). field_name w r k (name_text w p.name)))

pub relation_names_are : (w : s.Workload) (r : s.RelationDecl) → relation_names w r ≡ first_names w r (nat_of r.slots.value)
unfolding definitions
relation_names_are w r = refl

-- ---- the names of relations
abbrev pub names_of : s.Workload → List RelationDecl → List (List ℕ)
names_of w relations = flat_map (λ r. relation_names w (plain_relation r)) relations

pub object_names_are : (w : Workload) → object_names (plain_workload w) ≡ declared_names (plain_workload w) w.objects.items ++ names_of (plain_workload w) w.relations.items
unfolding definitions syntax_definitions
object_names_are w =
    ap (λ names. declared_names (plain_workload w) w.objects.items ++ names) (flat_map-map (relation_names (plain_workload w)) plain_relation w.relations.items)

pub names_more : (w : s.Workload) (relations : List RelationDecl) (i : ℕ) (r : RelationDecl) → i < length relations → r ≡ get_or relations i r → names_of w (take (i + 1) relations) ≡ names_of w (take i relations) ++ relation_names w (plain_relation r)
names_more w relations i r within is =
    ap (names_of w) (take_more relations i r within) ∙ flat_map-append (λ (q : RelationDecl). relation_names w (plain_relation q)) (take i relations) (get_or relations i r ∷ [])
    ∙ ap (λ l. names_of w (take i relations) ++ l) (append-nil (relation_names w (plain_relation (get_or relations i r))))
    ∙ ap (λ q. names_of w (take i relations) ++ relation_names w (plain_relation q)) (sym is)

pub ruleset object_steps = (append_assoc, declared_more, fields_more, first_names_more, names_more)

-- the name of a number, as it is looked up
pub name_found : {A : Type 0} (texts : List (Vec ℕ A)) (n : ℕ) (o : Option (Vec ℕ A)) → o ≡ slice_get texts n → name_at (map bytes_of texts) n ≡ option_map_or bytes_of o []
unfolding definitions
name_found texts n None e = ap (λ o. unwrap_or o []) (slice_get-map bytes_of texts n ∙ ap (option_map bytes_of) (sym e))
name_found texts n (Some text) e = ap (λ o. unwrap_or o []) (slice_get-map bytes_of texts n ∙ ap (option_map bytes_of) (sym e))
