-- What the absence of faults of names says of the objects, relations, fields and row variables that a body names.
use Rattle.std.proofs.Common.{◌≡◌, ℕ, suc, ◌+◌, Bool, true, false, cond, not, ◌||◌, ◌==◌, List, [], ◌∷◌, ◌++◌, map, length, Option, Some, None, refl, sym, ap, subst, ◌∙◌, arith, add-zero, zero-add, append-nil, append_assoc}
use Rattle.std.specs.Prelude.{slice_get}
use Rattle.std.specs.List.{flat_map}
use Rattle.homeo_syntax.specs.Source as s
use Rattle.homeo_syntax.specs.declared.phrase.Ident.{Ident}
use Rattle.homeo_syntax.specs.declared.workload.ObjectDecl.{ObjectDecl}
use Rattle.homeo_syntax.specs.declared.workload.RangeDecl.{RangeDecl}
use Rattle.homeo_meaning.specs.Key.{definitions}
use Rattle.homeo_meaning.specs.Schema.{Declared, declared_object, declared_range, declared_relation, schema_of}
use Rattle.homeo_meaning.specs.Context.{find_fields}
use Rattle.homeo_meaning.specs.Bindings as b
use Rattle.homeo_meaning.specs.Bindings.{Scope, item_or, row_or, row_relation}
use Rattle.homeo_meaning.specs.Occurrences.{Occurrence, at, TakesObject, TakesRelation, TakesField, NamesField, FillsFields, in_commands}
use Rattle.homeo_meaning.specs.ListRules.{when, fault, each_from, each, is_in, duplicate}
use Rattle.homeo_meaning.specs.NameRules.{takes_object, takes_relation, takes_field, field_of, fills_all, judge}
use Rattle.homeo_meaning.specs.TransactionRules.{local_of, temporaries, body_faults, parameter_fault, transaction_faults}
use Rattle.homeo_meaning.specs.GlobalNames.{GlobalName, numbered_from, first_named, field_names, scope_of}
use Rattle.homeo_meaning.specs.declared.rules.Fault.{Fault}
use Rattle.homeo_meaning.specs.declared.rules.Item.{Item}
use Rattle.homeo_meaning.specs.declared.rules.Item.TheVariants as I
use Rattle.homeo_meaning.specs.declared.rules.Local.{Local}
use Rattle.homeo_meaning.specs.declared.rules.Local.TheVariants as L
use Rattle.homeo_meaning.specs.declared.rules.Phase.TheVariants as F
use Rattle.homeo_meaning.proofs.FaultParts.{none_first, none_second}
use Rattle.homeo_lform.proofs.ObjectBounds.{Each}

-- ---- places without a fault
pub record Clean (sc : Scope) (p : Occurrence) : Type 0 where
  pub local : ℕ → Local
  pub none : judge sc local p ≡ []

all_clean : (sc : Scope) (local : List Occurrence → ℕ → Local) (before ps : List Occurrence) → each_from (λ before p. judge sc (local before) p) before ps ≡ []
    → Each (Clean sc) ps
unfolding definitions
all_clean sc local before [] e = tt
all_clean sc local before (p ∷ ps) e =
    let rest : List Fault = each_from (λ before p. judge sc (local before) p) (before ++ p ∷ []) ps in (
      record { local = local before; none = none_first (judge sc (local before) p) rest e },
      all_clean sc local (before ++ p ∷ []) ps (none_second (judge sc (local before) p) rest e),
    )

abbrev idents : List Ident → List ℕ
idents fs = map (λ x. x.name) fs

pub body_clean : (sc : Scope) (t : s.Transaction) → transaction_faults sc t ≡ [] → Each (Clean sc) (in_commands [] t.body)
unfolding definitions
body_clean sc t e =
    let params : List Ident = map (λ (d : RangeDecl). d.name) t.params in
    let body : List Fault = body_faults sc (idents params) (in_commands [] t.body) in
    all_clean sc (λ before. local_of (idents params) (temporaries sc (idents params) before)) [] (in_commands [] t.body)
    (none_second (each (parameter_fault sc) params) body e)

-- ---- what a clean place says
pub record Numbered (sc : Scope) (n : ℕ) : Type 0 where
  pub number : ℕ
  pub is : sc.item n ≡ Some (I.Relation number)

is-object : (x : Ident) (o : Option Item) (r : Option ℕ) (l : Local) → takes_object x (item_or o (row_or r l)) ≡ [] → (k : ℕ) × (o ≡ Some (I.Object k))
is-object x (Some (I.Object k)) r l e = (k, refl)
is-object x (Some (I.Relation k)) r l e = cc
is-object x (Some (I.Transaction k)) r l e = cc
is-object x (Some (I.Client k)) r l e = cc
is-object x None (Some q) l e = cc
is-object x None None L.Absent e = cc
is-object x None None L.Parameter e = cc
is-object x None None L.Temporary e = cc

pub object_taken : (sc : Scope) (rows : List b.Row) (x : Ident) → Clean sc (at rows (TakesObject x)) → (k : ℕ) × (sc.item x.name ≡ Some (I.Object k))
unfolding definitions
object_taken sc rows x h = is-object x (sc.item x.name) (row_relation rows x.name) (h.local x.name) h.none

is-relation : (x : Ident) (o : Option Item) (r : Option ℕ) (l : Local) → takes_relation x (item_or o (row_or r l)) ≡ [] → (k : ℕ) × (o ≡ Some (I.Relation k))
is-relation x (Some (I.Relation k)) r l e = (k, refl)
is-relation x (Some (I.Object k)) r l e = cc
is-relation x (Some (I.Transaction k)) r l e = cc
is-relation x (Some (I.Client k)) r l e = cc
is-relation x None (Some q) l e = cc
is-relation x None None L.Absent e = cc
is-relation x None None L.Parameter e = cc
is-relation x None None L.Temporary e = cc

pub relation_taken : (sc : Scope) (rows : List b.Row) (q : Ident) → Clean sc (at rows (TakesRelation q)) → Numbered sc q.name
unfolding definitions
relation_taken sc rows q h =
    let found = is-relation q (sc.item q.name) (row_relation rows q.name) (h.local q.name) h.none in
    record { number = found.0; is = found.1 }

there : (b : Bool) (f : Ident) → when (not b) (fault F.Unknown f) ≡ [] → b ≡ true
there true f e = refl
there false f e = cc

has_field : (sc : Scope) (o : Option Item) (k : ℕ) (f : Ident) → o ≡ Some (I.Relation k) → field_of sc o f ≡ [] → is_in f.name (sc.fields k) ≡ true
has_field sc o k f e h = there (is_in f.name (sc.fields k)) f (sym (ap (λ o. field_of sc o f) e) ∙ h)

-- the field is one of the relation's
pub record FieldNamed (sc : Scope) (q f : ℕ) : Type 0 where
  pub relation : Numbered sc q
  pub field : is_in f (sc.fields relation.number) ≡ true

named_in : (sc : Scope) (q : ℕ) (f : Ident) → Numbered sc q → field_of sc (sc.item q) f ≡ [] → FieldNamed sc q f.name
named_in sc q f k e = record { relation = k; field = has_field sc (sc.item q) k.number f k.is e }

pub field_named : (sc : Scope) (rows : List b.Row) (q f : Ident) → Numbered sc q.name → Clean sc (at rows (NamesField q f)) → FieldNamed sc q.name f.name
unfolding definitions
field_named sc rows q f k c = named_in sc q.name f k c.none

-- the relations of the row variables in force are declared
abbrev pub AllNumbered : Scope → List b.Row → Type 0
AllNumbered sc [] = Unit {0}
AllNumbered sc (r ∷ rows) = Numbered sc r.relation × AllNumbered sc rows

in_force : (sc : Scope) (rows : List b.Row) (n q : ℕ) → AllNumbered sc rows → row_relation rows n ≡ Some q → Numbered sc q
in_force sc [] n q h e = cc
in_force sc (r ∷ rows) n q h e = by_case (r.row == n) (in_force sc rows n q h.1) e
  where
    by_case : (b : Bool) → (row_relation rows n ≡ Some q → Numbered sc q) → cond b (Some r.relation) (row_relation rows n) ≡ Some q → Numbered sc q
    by_case true rest e = let same : r.relation ≡ q = cc in subst (Numbered sc) same h.0
    by_case false rest e = rest e

-- a row variable in force, whose relation has the field
pub record RowFieldNamed (sc : Scope) (rows : List b.Row) (r f : ℕ) : Type 0 where
  pub relation : ℕ
  pub in_force : row_relation rows r ≡ Some relation
  pub field : FieldNamed sc relation f

is-row : (sc : Scope) (x f : Ident) (o : Option Item) (r : Option ℕ) (l : Local) → takes_field sc x f (item_or o (row_or r l)) ≡ []
    → (q : ℕ) × ((r ≡ Some q) × (field_of sc (sc.item q) f ≡ []))
is-row sc x f (Some g) r l e = cc
is-row sc x f None (Some q) l e = (q, (refl, e))
is-row sc x f None None L.Absent e = cc
is-row sc x f None None L.Parameter e = cc
is-row sc x f None None L.Temporary e = cc

pub row_field_named : (sc : Scope) (rows : List b.Row) (r f : Ident) → AllNumbered sc rows → Clean sc (at rows (TakesField r f))
    → RowFieldNamed sc rows r.name f.name
unfolding definitions
row_field_named sc rows r f h c =
    let found = is-row sc r f (sc.item r.name) (row_relation rows r.name) (c.local r.name) c.none in
    record { relation = found.0; in_force = found.1.0; field = named_in sc found.0 f (in_force sc rows r.name found.0 h found.1.0) found.1.1 }

abbrev named : List s.FieldValue → List Ident
named fs = map (λ f. f.field) fs

abbrev pub AllFieldsNamed : Scope → ℕ → List s.FieldValue → Type 0
AllFieldsNamed sc q [] = Unit {0}
AllFieldsNamed sc q (f ∷ fs) = FieldNamed sc q f.field.name × AllFieldsNamed sc q fs

all_named_in : (sc : Scope) (q : ℕ) (fs : List s.FieldValue) → Numbered sc q → flat_map (field_of sc (sc.item q)) (named fs) ≡ [] → AllFieldsNamed sc q fs
all_named_in sc q [] k e = tt
all_named_in sc q (f ∷ fs) k e =
    let more : List Fault = flat_map (field_of sc (sc.item q)) (named fs) in (
      named_in sc q f.field k (none_first (field_of sc (sc.item q) f.field) more e),
      all_named_in sc q fs k (none_second (field_of sc (sc.item q) f.field) more e),
    )

pub all_fields_named : (sc : Scope) (rows : List b.Row) (q : Ident) (fs : List s.FieldValue) → Numbered sc q.name
    → Clean sc (at rows (FillsFields q (named fs))) → AllFieldsNamed sc q.name fs
unfolding definitions
all_fields_named sc rows q fs k c =
    let doubled : List Fault = each duplicate (named fs) in
    let unknown : List Fault = flat_map (field_of sc (sc.item q.name)) (named fs) in
    let two : doubled ++ unknown ≡ [] = none_first (doubled ++ unknown) (fills_all sc (sc.item q.name) q (length (named fs))) c.none in
    all_named_in sc q.name fs k (none_second doubled unknown two)

-- ---- which object or relation a number is
abbrev object_number : Option Item → Option ℕ
object_number (Some (I.Object k)) = Some k
object_number _ = None

abbrev relation_number : Option Item → Option ℕ
relation_number (Some (I.Relation k)) = Some k
relation_number _ = None

-- declarations of another kind are passed over
passed : (number : Option Item → Option ℕ) (kind : ℕ → Item) → ((k : ℕ) → number (Some (kind k)) ≡ None)
    → (n i : ℕ) (xs : List Ident) (more : List GlobalName) (k : ℕ) →
    number (first_named (numbered_from kind i xs ++ more) n) ≡ Some k → number (first_named more n) ≡ Some k
unfolding definitions
passed number kind h n i [] more k e = e
passed number kind h n i (x ∷ xs) more k e = by_case (x.name == n) (passed number kind h n (i + 1) xs more k) e
  where
    by_case : (b : Bool)
        → (number (first_named (numbered_from kind (i + 1) xs ++ more) n) ≡ Some k → number (first_named more n) ≡ Some k)
        → number (cond b (Some (kind i)) (first_named (numbered_from kind (i + 1) xs ++ more) n)) ≡ Some k
        → number (first_named more n) ≡ Some k
    by_case true rest e = let no : None ≡ Some k = sym (h i) ∙ e in cc
    by_case false rest e = rest e

-- the last of the global names
last_passed : (number : Option Item → Option ℕ) → number None ≡ None → ((k : ℕ) → number (Some (I.Client k)) ≡ None) → (n : ℕ) (cs : List Ident) (k : ℕ) →
    number (first_named (numbered_from I.Client 0 cs) n) ≡ Some k → ⊥
unfolding definitions
last_passed number none h n cs k e =
    let c = numbered_from I.Client 0 cs in
    let e1 : number (first_named (c ++ []) n) ≡ Some k = ap (λ l. number (first_named l n)) (append-nil c) ∙ e in
    let e2 : None ≡ Some k = sym none ∙ passed number I.Client h n 0 cs [] k e1 in
    cc

-- a name that is among the declared ones
abbrev pub IsAmong : ℕ → List Declared → Type 0
IsAmong n ds = is_in n (map (λ d. d.name) ds) ≡ true

the_object : (n i : ℕ) (os : List ObjectDecl) (more : List GlobalName) (k : ℕ) → (object_number (first_named more n) ≡ Some k → ⊥) →
    object_number (first_named (numbered_from I.Object i (map (λ d. d.name) os) ++ more) n) ≡ Some k → IsAmong n (map declared_object os)
unfolding definitions
the_object n i [] more k none e = absurd (none e)
the_object n i (d ∷ os) more k none e = by_case (d.name.name == n) (the_object n (i + 1) os more k none) e
  where
    by_case : (b : Bool)
        → (object_number (first_named (numbered_from I.Object (i + 1) (map (λ d. d.name) os) ++ more) n) ≡ Some k → IsAmong n (map declared_object os))
        → object_number (cond b (Some (I.Object i)) (first_named (numbered_from I.Object (i + 1) (map (λ d. d.name) os) ++ more) n)) ≡ Some k
        → (b || is_in n (map (λ (d : Declared). d.name) (map declared_object os))) ≡ true
    by_case true rest e = refl
    by_case false rest e = rest e

record There (qs : List s.RelationDecl) (i n k : ℕ) : Type 0 where
  place : ℕ
  after : k ≡ i + place
  fields : field_names (slice_get qs place) ≡ map (λ (d : Declared). d.name) (find_fields (map declared_relation qs) n)

field_names_of : (ds : List RangeDecl) → map (λ (d : RangeDecl). d.name.name) ds ≡ map (λ (d : Declared). d.name) (map declared_range ds)
unfolding definitions
field_names_of [] = refl
field_names_of (d ∷ ds) = ap (λ l. d.name.name ∷ l) (field_names_of ds)

the_relation : (n i : ℕ) (qs : List s.RelationDecl) (more : List GlobalName) (k : ℕ) → (relation_number (first_named more n) ≡ Some k → ⊥) →
    relation_number (first_named (numbered_from I.Relation i (map (λ q. q.name) qs) ++ more) n) ≡ Some k → There qs i n k
unfolding definitions
the_relation n i [] more k none e = absurd (none e)
the_relation n i (q ∷ qs) more k none e = found_in (q.name.name == n) refl (the_relation n (i + 1) qs more k none) e
  where
    found_in : (b : Bool)
        → (q.name.name == n) ≡ b
        → (relation_number (first_named (numbered_from I.Relation (i + 1) (map (λ q. q.name) qs) ++ more) n) ≡ Some k → There qs (i + 1) n k)
        → relation_number (cond b (Some (I.Relation i)) (first_named (numbered_from I.Relation (i + 1) (map (λ q. q.name) qs) ++ more) n)) ≡ Some k
        → There (q ∷ qs) i n k
    found_in true h rest e =
        let is : i ≡ k = cc in
        record {
          place = 0;
          after = sym is ∙ sym (add-zero i);
          fields =
              field_names_of q.fields
              ∙ sym (ap (λ (b : Bool). map (λ (d : Declared). d.name) (cond b (map declared_range q.fields) (find_fields (map declared_relation qs) n))) h);
        }
    found_in false h rest e =
        let r : There qs (i + 1) n k = rest e in
        let a : k ≡ i + 1 + r.place = r.after in
        record {
          place = suc r.place;
          after = omega arith;
          fields =
              r.fields
              ∙ sym (ap (λ (b : Bool). map (λ (d : Declared). d.name) (cond b (map declared_range q.fields) (find_fields (map declared_relation qs) n))) h);
        }

-- the global names as four lists, one after another
abbrev after_objects : s.Workload → List GlobalName
unfolding definitions
after_objects w =
    numbered_from I.Relation 0 (map (λ (d : s.RelationDecl). d.name) w.relations)
    ++ (numbered_from I.Transaction 0 (map (λ (d : s.Transaction). d.name) w.transactions)
    ++ numbered_from I.Client 0 (map (λ (d : s.Client). d.name) w.clients))

grouped : (w : s.Workload) (n : ℕ) → (scope_of w).item n ≡ first_named
    (numbered_from I.Object 0 (map (λ (d : ObjectDecl). d.name) w.objects) ++ after_objects w) n
unfolding definitions
grouped w n =
    let o = numbered_from I.Object 0 (map (λ (d : ObjectDecl). d.name) w.objects) in
    let r = numbered_from I.Relation 0 (map (λ (d : s.RelationDecl). d.name) w.relations) in
    let t = numbered_from I.Transaction 0 (map (λ (d : s.Transaction). d.name) w.transactions) in
    let c = numbered_from I.Client 0 (map (λ (d : s.Client). d.name) w.clients) in
    ap (λ (l : List GlobalName). first_named l n) (append_assoc (o ++ r) t c ∙ append_assoc o r (t ++ c))

pub object_among : (w : s.Workload) (n k : ℕ) → (scope_of w).item n ≡ Some (I.Object k) → IsAmong n (schema_of w).objects
unfolding definitions
object_among w n k e =
    let ts : List Ident = map (λ (d : s.Transaction). d.name) w.transactions in
    let cs : List Ident = map (λ (d : s.Client). d.name) w.clients in
    let qs : List Ident = map (λ (d : s.RelationDecl). d.name) w.relations in
    the_object n 0 w.objects (after_objects w) k
    (λ z. last_passed object_number refl (λ k. refl) n cs k
    (passed object_number I.Transaction (λ k. refl) n 0 ts (numbered_from I.Client 0 cs) k
    (passed object_number I.Relation (λ k. refl) n 0 qs (numbered_from I.Transaction 0 ts ++ numbered_from I.Client 0 cs) k z)))
    (ap object_number (sym (grouped w n) ∙ e))

-- the scope's fields of a relation are those of the schema
pub same_fields : (w : s.Workload) (n k : ℕ) → (scope_of w).item n ≡ Some (I.Relation k)
    → (scope_of w).fields k ≡ map (λ (d : Declared). d.name) (find_fields (schema_of w).relations n)
unfolding definitions
same_fields w n k e =
    let os : List Ident = map (λ (d : ObjectDecl). d.name) w.objects in
    let ts : List Ident = map (λ (d : s.Transaction). d.name) w.transactions in
    let cs : List Ident = map (λ (d : s.Client). d.name) w.clients in
    let more = numbered_from I.Transaction 0 ts ++ numbered_from I.Client 0 cs in
    let h : There w.relations 0 n k =
    the_relation n 0 w.relations more k
    (λ z. last_passed relation_number refl (λ k. refl) n cs k (passed relation_number I.Transaction (λ k. refl) n 0 ts (numbered_from I.Client 0 cs) k z))
    (passed relation_number I.Object (λ k. refl) n 0 os (after_objects w) k (ap relation_number (sym (grouped w n) ∙ e))) in
    ap (λ p. field_names (slice_get w.relations p)) (h.after ∙ zero-add h.place) ∙ h.fields
