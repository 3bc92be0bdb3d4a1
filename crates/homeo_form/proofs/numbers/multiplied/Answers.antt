-- The product of two numbers of the code.
use Rattle.homeo_form.proofs.Widths.{product_in, product_is}
use Rattle.homeo_form.proofs.numbers.multiplied.Goals as goal

pub overflow_mul-result : goal.overflow_mul-result
overflow_mul-result c = product_in c.args.a c.args.b c.ranges.a c.ranges.b c.requires.left c.requires.right

pub returns : goal.returns
returns c = product_is c.args.a c.args.b c.ranges.a c.ranges.b c.requires.left c.requires.right
