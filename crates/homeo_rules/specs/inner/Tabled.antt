-- The fields of relations, and a table of them.
use Rattle.std.specs.Prelude.{◌≡◌, ℕ, ◌==◌, ◌&&◌, Bool, false, List, [], map, Option, Some, None, slice_get}
use Rattle.std.specs.List.{list_any}
use Rattle.indexmap.specs.IndexSet.{IndexSet}
use Rattle.homeo_syntax.specs.declared.workload.RelationDecl.{RelationDecl}
use Rattle.homeo_rules.specs.declared.names.field_table.FieldKey.{FieldKey}

abbrev pub fields_of : Option RelationDecl → List ℕ
fields_of None = []
fields_of (Some q) = map (λ d. d.name.name) q.fields.items

-- the names of the fields of the relation of a number
abbrev pub fields_at : List RelationDecl → ℕ → List ℕ
fields_at qs k = fields_of (slice_get qs k)

-- whether the relation has a field of the name
abbrev pub has_name : Option RelationDecl → ℕ → Bool
has_name None n = false
has_name (Some q) n = list_any (λ d. d.name.name == n) q.fields.items

-- whether a table has a name for the relation of a number
abbrev pub is_tabled : {S : Type 0} → IndexSet FieldKey S → ℕ → ℕ → Bool
is_tabled t k n = list_any (λ key. (k == key.relation) && (n == key.name)) t.keys

-- a table has for each relation the names of its fields
abbrev pub AreTabled : {S : Type 0} → List RelationDecl → IndexSet FieldKey S → Type 0
AreTabled qs t = (k n : ℕ) → is_tabled t k n ≡ has_name (slice_get qs k) n
