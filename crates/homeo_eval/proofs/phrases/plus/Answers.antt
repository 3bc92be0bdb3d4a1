use Rattle.homeo_meaning.proofs.Numbers.{sum_is}
use Rattle.homeo_eval.proofs.phrases.plus.Goals as goal

pub returns : goal.returns
returns c = sum_is c.args.a c.args.b c.ranges.a c.ranges.b c.requires
