use Rattle.homeo_meaning.proofs.Numbers.{negation_is}
use Rattle.homeo_eval.proofs.phrases.negated.Goals as goal

pub returns : goal.returns
returns c = negation_is c.args.a c.ranges.a c.requires
