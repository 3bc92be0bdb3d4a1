-- The sign of each part is turned.
use Rattle.std.proofs.Common.{rules, negsuc, refl}
use Rattle.homeo_form.proofs.Widths.{product_kept}
use Rattle.homeo_form.proofs.FormSteps.{one_is_small}
use Rattle.homeo_form.proofs.FormParts.{small_terms, multiple_in_order, multiple_is}
use Rattle.homeo_form.proofs.form.Form.negated.Goals as goal

pub negate-requires-clause-small : goal.negate-requires-clause-small
negate-requires-clause-small c =
    small_terms c.args.self c.self.inside.constant c.self.inside.terms.items _ c.self.inside.mixed.items c.self.view_is refl c.requires.small

pub negate-requires-clause-counts : goal.negate-requires-clause-counts
negate-requires-clause-counts c = c.self.invariant.0.counts

pub multiplied-requires-clause-left : goal.multiplied-requires-clause-left
multiplied-requires-clause-left c = one_is_small

pub invariant_of-result : goal.invariant_of-result
invariant_of-result c =
    multiple_in_order (negsuc 0) c.self.inside.terms.items _ _ c.self.inside.mixed.items _ _ c.negate.ensures refl refl refl c.self.invariant

pub returns : goal.returns
returns c =
    multiple_is c.args.self (negsuc 0) (negsuc 0) c.self.inside.constant _ c.self.inside.terms.items _ _ c.self.inside.mixed.items _ _
    c.self.view_is (product_kept c.multiplied.result (negsuc 0) c.self.inside.constant (search rules) (search rules) (search rules) c.multiplied.ensures) refl
    c.negate.ensures refl refl refl
