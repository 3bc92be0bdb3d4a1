-- The rules of names at one place, from what each name stands for there.
pub use Rattle.homeo_meaning.specs.ListRules.{when, fault, number_fault}
use Rattle.std.specs.Prelude.{ℕ, not, List, [], ◌++◌, length, ◌==◌, Option, Some}
use Rattle.std.specs.List.{flat_map}
use Rattle.homeo_syntax.specs.declared.phrase.Ident.{Ident}
use Rattle.homeo_meaning.specs.Key.{definitions}
use Rattle.homeo_meaning.specs.ListRules.{each, is_in, duplicate}
use Rattle.homeo_meaning.specs.Bindings.{Scope, binding}
use Rattle.homeo_meaning.specs.Occurrences.{Mark, Occurrence, DeclaresRow, TakesObject, TakesRelation, TakesValue, TakesField, NamesField, FillsFields, Assigns}
use Rattle.homeo_meaning.specs.declared.rules.Fault.{Fault}
use Rattle.homeo_meaning.specs.declared.rules.Phase.TheVariants.{Duplicate, Unknown, Kind, Arity}
use Rattle.homeo_meaning.specs.declared.rules.Item.{Item}
use Rattle.homeo_meaning.specs.declared.rules.Item.TheVariants.{Object, Relation}
use Rattle.homeo_meaning.specs.declared.rules.Local.{Local}
use Rattle.homeo_meaning.specs.declared.rules.Binding.{Binding}
use Rattle.homeo_meaning.specs.declared.rules.Binding.TheVariants as B

-- a row variable has a name that is known for nothing else where it is declared
abbrev pub declares_row : Ident → Binding → List Fault
declares_row x B.Unbound = []
declares_row x _ = fault Duplicate x

abbrev pub takes_object : Ident → Binding → List Fault
takes_object x B.Unbound = fault Unknown x
takes_object x (B.Item (Object k)) = []
takes_object x _ = fault Kind x

abbrev pub takes_relation : Ident → Binding → List Fault
takes_relation x B.Unbound = fault Unknown x
takes_relation x (B.Item (Relation k)) = []
takes_relation x _ = fault Kind x

abbrev pub takes_value : Ident → Binding → List Fault
takes_value x B.Unbound = fault Unknown x
takes_value x B.Parameter = []
takes_value x B.Temporary = []
takes_value x _ = fault Kind x

-- a field is one of its relation's; where that is no relation, it isn't looked up
abbrev pub field_of : Scope → Option Item → Ident → List Fault
field_of s (Some (Relation k)) f = when (not (is_in f.name (s.fields k))) (fault Unknown f)
field_of s _ f = []

-- the field of a row variable
abbrev pub takes_field : Scope → Ident → Ident → Binding → List Fault
takes_field s r f B.Unbound = fault Unknown r
takes_field s r f (B.Row q) = field_of s (s.item q) f
takes_field s r f _ = fault Kind r

-- as many fields as the relation has
abbrev pub fills_all : Scope → Option Item → Ident → ℕ → List Fault
fills_all s (Some (Relation k)) q n = when (not (n == length (s.fields k))) (fault Arity q)
fills_all s _ q n = []

-- an insert names each field of its relation once
abbrev pub fills_fields : Scope → Option Item → Ident → List Ident → List Fault
unfolding definitions
fills_fields s g q fs = each duplicate fs ++ flat_map (field_of s g) fs ++ fills_all s g q (length fs)

-- a target is a temporary, or becomes one
abbrev pub assigns : Ident → Binding → List Fault
assigns t B.Unbound = []
assigns t B.Temporary = []
assigns t _ = fault Kind t

abbrev pub judge_mark : Scope → (ℕ → Binding) → Mark → List Fault
judge_mark s b (DeclaresRow x) = declares_row x (b x.name)
judge_mark s b (TakesObject x) = takes_object x (b x.name)
judge_mark s b (TakesRelation x) = takes_relation x (b x.name)
judge_mark s b (TakesValue x) = takes_value x (b x.name)
judge_mark s b (TakesField r f) = takes_field s r f (b r.name)
judge_mark s b (NamesField q f) = field_of s (s.item q.name) f
judge_mark s b (FillsFields q fs) = fills_fields s (s.item q.name) q fs
judge_mark s b (Assigns t) = assigns t (b t.name)

-- the faults of names at a place
abbrev pub judge : Scope → (ℕ → Local) → Occurrence → List Fault
unfolding definitions
judge s local p = judge_mark s (binding s local p.rows) p.mark
