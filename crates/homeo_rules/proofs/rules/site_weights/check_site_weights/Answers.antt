use Rattle.std.proofs.Common.{◌∙◌}
use Rattle.homeo_rules.proofs.SiteWeights.{all_weights}
use Rattle.homeo_rules.proofs.rules.site_weights.check_site_weights.Goals as goal

pub returns : goal.returns
returns c = c.check_each.ensures ∙ all_weights c.args.best c.check_list-best.result c.args.sites c.args.weights.now c.check_list-best.ensures
