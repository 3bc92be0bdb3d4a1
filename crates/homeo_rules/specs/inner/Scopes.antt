-- The scopes that tables of global names stand for.
use Rattle.std.specs.Prelude.{ℕ, List, Option, None, slice_index_or}
use Rattle.homeo_syntax.specs.declared.workload.RelationDecl.{RelationDecl}
use Rattle.homeo_meaning.specs.Bindings as b
use Rattle.homeo_meaning.specs.declared.rules.Item.{Item}
use Rattle.homeo_rules.specs.declared.names.scope.Scope.{Scope}
use Rattle.homeo_rules.specs.inner.Tabled.{fields_at}

abbrev pub item_at : List (Option Item) → ℕ → Option Item
item_at items n = slice_index_or items n None

abbrev pub scope_with : List (Option Item) → List RelationDecl → b.Scope
scope_with items relations = record { item = item_at items; fields = fields_at relations }

abbrev pub scope_in : Scope → b.Scope
scope_in s = scope_with s.items.now s.relations.now
