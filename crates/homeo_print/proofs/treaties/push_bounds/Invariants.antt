use Rattle.std.proofs.Common.{◌≡◌, ◌++◌, take}
use Rattle.homeo_print.specs.Names.{numbers_text}
use Rattle.homeo_print.proofs.treaties.push_bounds.Given as goal

abbrev pub invariant-loop-bound : goal.invariant-loop-bound
invariant-loop-bound l = l.out.items ≡ l.fn.out.items ++ numbers_text (take l.bound-index l.bounds)
