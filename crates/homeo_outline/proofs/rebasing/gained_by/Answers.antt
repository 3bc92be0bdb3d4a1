-- The product.
use Rattle.std.proofs.Common.{◌*ℤ◌, ◌∙◌, SFits, rules}
use mir.Syntax.{w128}
use Rattle.std.proofs.lemmas.Int.{to_z-of_z}
use Rattle.homeo_outline.proofs.Rebased.{checked}
use Rattle.homeo_outline.proofs.rebasing.gained_by.Goals as goal

pub returns : goal.returns
returns c =
    let factor_fits : SFits w128 c.args.term.now.factor = search rules in
    let gain_fits : SFits w128 c.gain-gain.result = search rules in
    checked ◌*ℤ◌ c.checked_mul.result _ _ c.args.term.now.factor _ c.checked_mul.ensures
    (to_z-of_z w128 c.args.term.now.factor factor_fits) (to_z-of_z w128 c.gain-gain.result gain_fits ∙ c.gain-gain.ensures)
