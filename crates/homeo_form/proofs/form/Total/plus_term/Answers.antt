-- The term stands behind the others.
use Rattle.std.proofs.Common.{rules, refl}
use Rattle.homeo_form.proofs.Widths.{kept_is}
use Rattle.homeo_form.proofs.FormParts.{both_small, one_small, term_more_is}
use Rattle.homeo_form.proofs.form.Total.plus_term.Goals as goal

pub invariant_of-result : goal.invariant_of-result
invariant_of-result c = both_small c.self.inside.terms.items _ _ c.in_ok-push.ensures.items c.self.invariant (one_small c.args.term c.requires)

pub returns : goal.returns
returns c =
    term_more_is c.args.self c.self.inside.constant _ c.args.term c.self.inside.terms.items _ _ c.self.view_is
    (kept_is c.self.inside.constant _ (search rules) refl) c.in_ok-push.ensures.items
