use Rattle.homeo_rules.proofs.Printings.{counted}
use Rattle.homeo_rules.proofs.rules.prints.count_in.Goals as goal

pub returns : goal.returns
returns c = counted c.args.measuring.now c.args.t.now c.count_prints.result c.requires c.count_prints.ensures
