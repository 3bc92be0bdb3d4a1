use Rattle.homeo_template.proofs.Negation.{negation_in, negation_is}
use Rattle.homeo_template.proofs.key.negated.Goals as goal

pub overflow_sub-result : goal.overflow_sub-result
overflow_sub-result c = negation_in c.args.number c.ranges.number c.requires

pub returns : goal.returns
returns c = negation_is c.args.number c.ranges.number c.requires
