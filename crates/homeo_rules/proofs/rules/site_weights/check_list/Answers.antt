use Rattle.std.proofs.Common.{sym, ◌∙◌}
use Rattle.std.proofs.lemmas.Bool.{eqb-true}
use Rattle.homeo_rules.proofs.SiteWeights.{no_list, weightless, weighted}
use Rattle.homeo_rules.proofs.rules.site_weights.check_list.Goals as goal

pub returns-then-is_empty : goal.returns-then-is_empty
returns-then-is_empty c = no_list c.args.best c.args.sites c.args.weights.now (eqb-true _ _ (sym c.if-is_empty.ensures))

pub returns-then-are_weightless : goal.returns-then-are_weightless
returns-then-are_weightless c =
    c.at_number.ensures
    ∙ weightless c.args.best c.check_count-best.result c.args.sites c.args.weights.now c.if-is_empty.ensures c.check_count-best.ensures c.if-are_weightless.ensures

pub returns-else-are_weightless : goal.returns-else-are_weightless
returns-else-are_weightless c =
    weighted c.args.best c.check_count-best.result c.args.sites c.args.weights.now c.if-is_empty.ensures c.check_count-best.ensures c.if-are_weightless.ensures
