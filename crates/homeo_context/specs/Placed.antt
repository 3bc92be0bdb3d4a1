-- Relations with the numbers of their objects.
use Rattle.std.specs.Prelude.{◌≡◌, ◌≤◌, ◌<◌, ◌^◌, ◌+◌, ◌*◌, ℕ, List, [], ◌∷◌, map, length}
use Rattle.homeo_syntax.specs.declared.workload.ObjectDecl.{ObjectDecl}
use Rattle.homeo_syntax.specs.declared.workload.RelationDecl.{RelationDecl}
use Rattle.homeo_context.specs.declared.declarations.Placed.{Placed}
use Rattle.homeo_meaning.specs.Schema.{Relation, declared_range, nat_of}

abbrev pub placed_relation : Placed → Relation
placed_relation p = record { name = p.name; slots = p.slots; fields = map declared_range p.fields.items }

-- relations one after another, whose first object is that of number k
abbrev pub StandFrom : ℕ → List Placed → Type 0
StandFrom k [] = Unit {0}
StandFrom k (p ∷ ps) =
    (p.first ≡ k) × (k + p.slots * (1 + length p.fields.items) < 2 ^ 32) × StandFrom (k + p.slots * (1 + length p.fields.items)) ps

-- relations stand behind the objects, and the tables of names are those of both
pub record ArePlaced (objects : List ObjectDecl) (relations : List Placed) (object_names relation_names : List ℕ) : Type 0 where
  pub objects_named : object_names ≡ map (λ d. d.name.name) objects
  pub relations_named : relation_names ≡ map (λ p. p.name) relations
  pub stand : StandFrom (length objects) relations

-- from 1 to 64 slots
pub record HasSlots (r : RelationDecl) : Type 0 where
  pub least : 1 ≤ nat_of r.slots.value
  pub most : nat_of r.slots.value ≤ 64
