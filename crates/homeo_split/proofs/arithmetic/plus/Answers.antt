-- The sum of two numbers of the code.
use Rattle.homeo_split.proofs.Numbers.{sum_is}
use Rattle.homeo_split.proofs.arithmetic.plus.Goals as goal

pub returns : goal.returns
returns c = sum_is c.args.a c.args.b c.ranges.a c.ranges.b c.requires
