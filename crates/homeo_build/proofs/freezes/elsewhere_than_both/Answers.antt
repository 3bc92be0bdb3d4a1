-- A site that is the one isn't the other, unless they are the same.
use Rattle.std.proofs.Common.{arith}
use Rattle.std.proofs.lemmas.Bool.Decides.{nat_tests}
use Rattle.homeo_build.proofs.freezes.elsewhere_than_both.Goals as goal

pub returns-then-one-other : goal.returns-then-one-other
returns-then-one-other c = λ j. grind (arith, nat_tests)

pub returns-else-one-other : goal.returns-else-one-other
returns-else-one-other c = λ j. grind (arith, nat_tests)
