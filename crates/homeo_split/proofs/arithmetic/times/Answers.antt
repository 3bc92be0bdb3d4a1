-- The product of two numbers of the code.
use Rattle.homeo_split.proofs.Numbers.{product_is}
use Rattle.homeo_split.proofs.arithmetic.times.Goals as goal

pub returns : goal.returns
returns c = product_is c.args.a c.args.b c.ranges.a c.ranges.b c.requires
