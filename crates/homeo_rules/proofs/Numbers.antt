-- The rules of bounds, rule by rule.
use Rattle.std.proofs.Common.{◌≡◌, ◌++◌, refl}
use Rattle.homeo_syntax.specs.declared.phrase.Number.{Number}
use Rattle.homeo_syntax.specs.declared.workload.ObjectDecl.{ObjectDecl}
use Rattle.homeo_syntax.specs.declared.workload.RangeDecl.{RangeDecl}
use Rattle.homeo_meaning.specs.Key.{definitions as meaning_definitions}
use Rattle.homeo_meaning.specs.NumberRules.{too_large, crossed, range_faults, outside, object_faults, range_bounds}
use Rattle.homeo_rules.proofs.Steps.{keep_all-append}

pub range-is : (lo hi : Number) → range_faults lo hi ≡ too_large lo ++ too_large hi ++ crossed lo hi
unfolding meaning_definitions
range-is lo hi = refl

pub object-is : (d : ObjectDecl) → object_faults d ≡ range_faults d.lo d.hi ++ outside d.lo d.hi d.start
unfolding meaning_definitions
object-is d = refl

pub declared-is : (d : RangeDecl) → range_bounds d ≡ range_faults d.lo d.hi
unfolding meaning_definitions
declared-is d = refl

pub ruleset bounds = (range-is, object-is, declared-is, keep_all-append)
