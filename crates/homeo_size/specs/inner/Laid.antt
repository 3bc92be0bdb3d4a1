-- What the objects of declarations weigh where a call begins.
use Rattle.std.specs.Prelude.{◌≡◌, ℕ, List, map}
use Rattle.homeo_syntax.specs.SourceView.{plain_relation}
use Rattle.homeo_syntax.specs.declared.workload.ObjectDecl.{ObjectDecl}
use Rattle.homeo_syntax.specs.declared.workload.RangeDecl.{RangeDecl}
use Rattle.homeo_syntax.specs.declared.workload.RelationDecl.{RelationDecl}
use Rattle.homeo_meaning.specs.Bounds.{Bounds, bounds_of, all_bounds}
use Rattle.homeo_meaning.specs.Schema.{Relation, Schema, declared_object, declared_range, declared_relation}
use Rattle.homeo_meaning.specs.LowWeights.{bounds_weight}
use Rattle.homeo_size.specs.inner.Key.{definitions}
use Rattle.homeo_size.specs.inner.Numbers.{weight_cap}

abbrev pub relation_of : RelationDecl → Relation
relation_of r = declared_relation (plain_relation r)

abbrev pub capped_weight : Bounds → ℕ
unfolding definitions
capped_weight b = weight_cap (bounds_weight b)

abbrev pub range_weight : RangeDecl → ℕ
unfolding definitions
range_weight d = capped_weight (bounds_of (declared_range d))

abbrev pub object_weight : ObjectDecl → ℕ
unfolding definitions
object_weight d = capped_weight (bounds_of (declared_object d))

-- the weights of all objects
abbrev pub AreWeights : Schema → List ℕ → Type 0
AreWeights x weights = weights ≡ map capped_weight (all_bounds x)
