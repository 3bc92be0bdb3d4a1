use Rattle.homeo_meaning.proofs.Numbers.{product_is}
use Rattle.homeo_eval.proofs.phrases.times.Goals as goal

pub returns : goal.returns
returns c = product_is c.args.a c.args.b c.ranges.a c.ranges.b c.requires
