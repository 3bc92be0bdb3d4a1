use Rattle.std.proofs.Common.{◌≡◌, ◌++◌, ℤ, map, take}
use Rattle.homeo_syntax.specs.Listed.{Listed}
use Rattle.homeo_forecast.specs.Text.{bounds_lines}
use Rattle.homeo_forecast.proofs.text.push_config.Given as goal

abbrev pub invariant-loop-clause : goal.invariant-loop-clause
invariant-loop-clause l =
    l.out.items ≡ l.fn.out.items ++ bounds_lines (map (λ (b : Listed ℤ). b.items) (take l.clause l.config.bounds.items))
