use Rattle.std.proofs.Common.{◌≡◌, ◌++◌, take}
use Rattle.homeo_print.specs.Names.{numbers_text}
use Rattle.homeo_forecast.proofs.text.push_numbers.Given as goal

abbrev pub invariant-loop-number : goal.invariant-loop-number
invariant-loop-number l = l.out.items ≡ l.fn.out.items ++ numbers_text (take l.number-index l.numbers)
