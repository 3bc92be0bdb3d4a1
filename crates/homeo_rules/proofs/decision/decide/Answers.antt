use Rattle.std.proofs.Common.{◌∙◌}
use Rattle.homeo_rules.proofs.Joining.{scope-is}
use Rattle.homeo_rules.proofs.decision.decide.Goals as goal

pub in_scope-requires-clause-names : goal.in_scope-requires-clause-names
in_scope-requires-clause-names c =
    let fields = c.in_ok-fields.ensures ∙ c.as_slice.ensures in
    scope-is c.args.w.now c.in_ok-items.items c.as_slice-2.result.now c.in_ok-fields.fields c.in_ok-items.ensures c.as_slice-2.ensures fields
