use Rattle.std.proofs.Common.{◌≡◌, map, take, ℤ}
use Rattle.homeo_syntax.specs.Listed.{Listed}
use Rattle.homeo_plan.proofs.templates.copy_lists.Given as goal

abbrev pub invariant-loop-list : goal.invariant-loop-list
invariant-loop-list l =
    map (λ (b : Listed ℤ). b.items) l.copy.items ≡ map (λ (b : Listed ℤ). b.items) (take l.list-index l.lists)
