use Rattle.std.proofs.Common.{rules, arith}
use Rattle.std.proofs.lemmas.Int.{ints}
use Rattle.homeo_meaning.specs.Key.{definitions as meaning_definitions}
use Rattle.homeo_form.proofs.numbers.is_small_number.Goals as goal

pub returns-then-n-geminus4000000000000000000 : goal.returns-then-n-geminus4000000000000000000
unfolding meaning_definitions
returns-then-n-geminus4000000000000000000 c = (λ h. grind (arith, ints, rules), λ h. grind (arith, ints, rules))

pub returns-else-n-geminus4000000000000000000 : goal.returns-else-n-geminus4000000000000000000
unfolding meaning_definitions
returns-else-n-geminus4000000000000000000 c = (λ h. grind (arith, ints, rules), λ h. grind (arith, ints, rules))
