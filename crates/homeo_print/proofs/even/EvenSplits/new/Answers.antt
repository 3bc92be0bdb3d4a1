-- Nothing is small enough to be split.
use Rattle.std.proofs.Common.{arith}
use Rattle.homeo_meaning.specs.Key.{definitions as meaning_definitions}
use Rattle.homeo_print.proofs.even.EvenSplits.new.Goals as goal

pub of-requires-clause-small : goal.of-requires-clause-small
unfolding meaning_definitions
of-requires-clause-small c = omega arith

pub of-requires-2-clause-small : goal.of-requires-2-clause-small
unfolding meaning_definitions
of-requires-2-clause-small c = omega arith
