-- What a workload declares: objects and relations, by the numbers of their names.
use Rattle.std.specs.Prelude.{ℕ, ℤ, pos, negsuc, List, map}
use Rattle.homeo_syntax.specs.Source as s
use Rattle.homeo_syntax.specs.declared.workload.ObjectDecl.{ObjectDecl}
use Rattle.homeo_syntax.specs.declared.workload.RangeDecl.{RangeDecl}
use Rattle.homeo_meaning.specs.Key.{definitions}

-- an object, a field of a relation or a parameter, with its bounds
pub record Declared : Type 0 where
  pub name : ℕ
  pub lo : ℤ
  pub hi : ℤ

pub record Relation : Type 0 where
  pub name : ℕ
  pub slots : ℕ
  pub fields : List Declared

pub record Schema : Type 0 where
  pub objects : List Declared
  pub relations : List Relation

abbrev pub declared_object : ObjectDecl → Declared
unfolding definitions
declared_object d = record { name = d.name.name; lo = d.lo.value; hi = d.hi.value }

abbrev pub declared_range : RangeDecl → Declared
unfolding definitions
declared_range d = record { name = d.name.name; lo = d.lo.value; hi = d.hi.value }

-- a number of slots, which a text never has below 0
abbrev pub nat_of : ℤ → ℕ
nat_of (pos n) = n
nat_of (negsuc n) = 0

abbrev pub declared_relation : s.RelationDecl → Relation
unfolding definitions
declared_relation r = record { name = r.name.name; slots = nat_of r.slots.value; fields = map declared_range r.fields }

abbrev pub schema_of : s.Workload → Schema
unfolding definitions
schema_of w = record { objects = map declared_object w.objects; relations = map declared_relation w.relations }
