-- Names of objects, and small texts that others are made of.
use Rattle.std.specs.Prelude.{ℕ, List, [], ◌∷◌, ◌++◌, map, ℤ, codes, decimal, slice_get, unwrap_or}
use Rattle.std.specs.Fmt.{signed_decimal}
use Rattle.std.specs.List.{flat_map, range_with_len}
use Rattle.homeo_syntax.specs.Source as s
use Rattle.homeo_syntax.specs.declared.phrase.Ident.{Ident}
use Rattle.homeo_syntax.specs.declared.workload.ObjectDecl.{ObjectDecl}
use Rattle.homeo_syntax.specs.declared.workload.RangeDecl.{RangeDecl}
use Rattle.homeo_meaning.specs.Schema.{nat_of}
use Rattle.homeo_print.specs.Key.{definitions}

abbrev pub newline : List ℕ
newline = codes "\n"

-- a word and a number, in a line of their own
abbrev pub heading : List ℕ → ℕ → List ℕ
unfolding definitions
heading word number = word ++ decimal number ++ newline

-- numbers, each behind a space
abbrev pub numbers_text : List ℤ → List ℕ
unfolding definitions
numbers_text numbers = flat_map (λ n. codes " " ++ signed_decimal n) numbers

-- the text of a name, and nothing where there is no such name
abbrev pub name_text : s.Workload → Ident → List ℕ
unfolding definitions
name_text w x = unwrap_or (slice_get w.names x.name) []

-- ---- objects
-- R.K.F for slot K of the relation R
abbrev pub field_name : s.Workload → s.RelationDecl → ℕ → List ℕ → List ℕ
unfolding definitions
field_name w r slot field = name_text w r.name ++ codes "." ++ decimal slot ++ codes "." ++ field

abbrev pub field_names : s.Workload → s.RelationDecl → ℕ → List RangeDecl → List (List ℕ)
unfolding definitions
field_names w r slot fields = map (λ f. field_name w r slot (name_text w f.name)) fields

abbrev pub slot_names : s.Workload → s.RelationDecl → ℕ → List (List ℕ)
unfolding definitions
slot_names w r slot = field_name w r slot (codes "used") ∷ field_names w r slot r.fields

abbrev pub relation_names : s.Workload → s.RelationDecl → List (List ℕ)
unfolding definitions
relation_names w r = flat_map (slot_names w r) (range_with_len 0 (nat_of r.slots.value))

abbrev pub declared_names : s.Workload → List ObjectDecl → List (List ℕ)
unfolding definitions
declared_names w objects = map (λ o. name_text w o.name) objects

-- the names of all objects, in the order of their numbers
abbrev pub object_names : s.Workload → List (List ℕ)
unfolding definitions
object_names w = declared_names w w.objects ++ flat_map (relation_names w) w.relations

-- the name of a number, from 0, among names, and nothing where there is none
abbrev pub name_at : List (List ℕ) → ℕ → List ℕ
unfolding definitions
name_at names n = unwrap_or (slice_get names n) []
