-- The sum of two numbers of the code.
use Rattle.homeo_form.proofs.Widths.{sum_in, sum_is}
use Rattle.homeo_form.proofs.numbers.added.Goals as goal

pub overflow_add-result : goal.overflow_add-result
overflow_add-result c = sum_in c.args.a c.args.b c.ranges.a c.ranges.b c.requires.left c.requires.right

pub returns : goal.returns
returns c = sum_is c.args.a c.args.b c.ranges.a c.ranges.b c.requires.left c.requires.right
