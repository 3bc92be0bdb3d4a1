-- It is found to be the constant there.
use Rattle.std.proofs.Common.{sym, ◌∙◌, SFits, rules}
use mir.Syntax.{w128}
use Rattle.std.proofs.lemmas.Int.{to_z-of_z}
use Rattle.homeo_outline.proofs.Rebased.{found_number}
use Rattle.homeo_outline.proofs.rebasing.has_gained.Goals as goal

pub returns : goal.returns
returns c = λ yes.
    let new = c.args.new.now.constant in
    let new_fits : SFits w128 new = search rules in
    found_number c.constant_after.result _ new _ c.constant_after.ensures (sym c.eq.ensures ∙ yes) (to_z-of_z w128 new new_fits)
