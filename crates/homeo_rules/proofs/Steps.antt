-- What each kind of place does to what is kept.
use Rattle.std.proofs.Common.{◌≡◌, ℕ, ◌==◌, ◌||◌, List, [], ◌∷◌, ◌++◌, map, Option, Some, None, refl, ap}
use Rattle.std.specs.List.{list_any}
use Rattle.std.proofs.lemmas.List.{length-map}
use Rattle.std.proofs.lemmas.List.{set_past}
use Rattle.homeo_syntax.specs.declared.phrase.Ident.{Ident}
use Rattle.homeo_meaning.specs.Key.{definitions as meaning_definitions}
use Rattle.homeo_meaning.specs.Bindings.{Row, Scope, binding}
use Rattle.homeo_syntax.specs.declared.workload.RangeDecl.{RangeDecl}
use Rattle.homeo_syntax.specs.declared.workload.RelationDecl.{RelationDecl}
use Rattle.homeo_meaning.specs.ListRules.{is_in}
use Rattle.homeo_meaning.specs.Occurrences.{at, DeclaresRow, TakesObject, TakesRelation, TakesValue, TakesField, NamesField, FillsFields, Assigns}
use Rattle.homeo_meaning.specs.NameRules.{declares_row, takes_object, takes_relation, takes_value, field_of, takes_field, fills_fields, assigns}
use Rattle.homeo_rules.specs.inner.Deciding.{keep, keep_all}
use Rattle.homeo_meaning.specs.declared.rules.Fault.{Fault}
use Rattle.homeo_rules.specs.inner.Key.{definitions}
use Rattle.homeo_rules.specs.inner.Follow.{Standing, local_at, step, assigned}
use Rattle.homeo_rules.specs.inner.Tabled.{fields_of, has_name}

pub step-TakesObject : (s : Scope) (k : Standing) (rows : List Row) (x : Ident) → step s k (at rows (TakesObject x)) ≡ record { locals = k.locals; best = keep_all k.best (takes_object x (binding s (local_at k.locals) rows x.name)) }
unfolding definitions meaning_definitions
step-TakesObject s k rows x = refl

pub step-DeclaresRow : (s : Scope) (k : Standing) (rows : List Row) (x : Ident) → step s k (at rows (DeclaresRow x)) ≡ record { locals = k.locals; best = keep_all k.best (declares_row x (binding s (local_at k.locals) rows x.name)) }
unfolding definitions meaning_definitions
step-DeclaresRow s k rows x = refl

pub step-TakesRelation : (s : Scope) (k : Standing) (rows : List Row) (x : Ident) → step s k (at rows (TakesRelation x)) ≡ record { locals = k.locals; best = keep_all k.best (takes_relation x (binding s (local_at k.locals) rows x.name)) }
unfolding definitions meaning_definitions
step-TakesRelation s k rows x = refl

pub step-TakesField : (s : Scope) (k : Standing) (rows : List Row) (r f : Ident) → step s k (at rows (TakesField r f)) ≡ record { locals = k.locals; best = keep_all k.best (takes_field s r f (binding s (local_at k.locals) rows r.name)) }
unfolding definitions meaning_definitions
step-TakesField s k rows r f = refl

pub step-NamesField : (s : Scope) (k : Standing) (rows : List Row) (q f : Ident) → step s k (at rows (NamesField q f)) ≡ record { locals = k.locals; best = keep_all k.best (field_of s (s.item q.name) f) }
unfolding definitions meaning_definitions
step-NamesField s k rows q f = refl

pub step-FillsFields : (s : Scope) (k : Standing) (rows : List Row) (q : Ident) (fs : List Ident) → step s k (at rows (FillsFields q fs)) ≡ record { locals = k.locals; best = keep_all k.best (fills_fields s (s.item q.name) q fs) }
unfolding definitions meaning_definitions
step-FillsFields s k rows q fs = refl

pub step-TakesValue : (s : Scope) (k : Standing) (rows : List Row) (x : Ident) → step s k (at rows (TakesValue x)) ≡ record { locals = k.locals; best = keep_all k.best (takes_value x (binding s (local_at k.locals) rows x.name)) }
unfolding definitions meaning_definitions
step-TakesValue s k rows x = refl

pub step-Assigns : (s : Scope) (k : Standing) (rows : List Row) (t : Ident) → step s k (at rows (Assigns t)) ≡ record { locals = assigned (binding s (local_at k.locals) rows t.name) k.locals t.name; best = keep_all k.best (assigns t (binding s (local_at k.locals) rows t.name)) }
unfolding definitions meaning_definitions
step-Assigns s k rows t = refl

pub keep-none : (b : Option Fault) → keep_all b [] ≡ b
unfolding meaning_definitions
keep-none b = refl

pub keep-one : (b : Option Fault) (f : Fault) (fs : List Fault) → keep_all b (f ∷ fs) ≡ keep_all (keep b f) fs
unfolding meaning_definitions
keep-one b f fs = refl

pub keep_all-append : (b : Option Fault) (fs gs : List Fault) → keep_all b (fs ++ gs) ≡ keep_all (keep_all b fs) gs
unfolding meaning_definitions
keep_all-append b [] gs = refl
keep_all-append b (f ∷ fs) gs = keep_all-append (keep b f) fs gs

-- ---- fields
is_in-map : (ds : List RangeDecl) (n : ℕ) → is_in n (map (λ d. d.name.name) ds) ≡ list_any (λ d. d.name.name == n) ds
unfolding meaning_definitions
is_in-map [] n = refl
is_in-map (d ∷ ds) n = ap (λ b. (d.name.name == n) || b) (is_in-map ds n)

pub is_in-fields : (o : Option RelationDecl) (n : ℕ) → is_in n (fields_of o) ≡ has_name o n
unfolding meaning_definitions
is_in-fields None n = refl
is_in-fields (Some q) n = is_in-map q.fields.items n

pub ruleset steps = (step-DeclaresRow, step-TakesObject, step-TakesRelation, step-TakesValue, step-TakesField, step-NamesField, step-FillsFields, step-Assigns, keep-none, keep-one, keep_all-append, set_past)

pub ruleset lookups = (is_in-fields, keep-none, keep-one, length-map)

pub ruleset keeping = (keep-none, keep-one)

pub ruleset places = (set_past)
