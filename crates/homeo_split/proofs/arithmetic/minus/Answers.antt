-- The negation of a number of the code.
use Rattle.homeo_split.proofs.Numbers.{negation_is}
use Rattle.homeo_split.proofs.arithmetic.minus.Goals as goal

pub returns : goal.returns
returns c = negation_is c.args.a c.ranges.a c.requires
