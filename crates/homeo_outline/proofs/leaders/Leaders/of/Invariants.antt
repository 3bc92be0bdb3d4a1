use Rattle.std.proofs.Common.{◌≡◌, map, length}
use Rattle.homeo_outline.specs.Leaders.{Lead}
use Rattle.homeo_outline.proofs.leaders.Leaders.of.Given as goal

abbrev pub invariant-loop-object : goal.invariant-loop-object
invariant-loop-object l = (length l.numbers.items ≡ l.object) × Lead l.outline.terms l.slacks (map (λ v. v.items) l.numbers.items)
