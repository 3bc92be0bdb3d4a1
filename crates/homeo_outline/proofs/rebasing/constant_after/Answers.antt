-- The sum.
use Rattle.std.proofs.Common.{◌+ℤ◌, ap, ◌∙◌, SFits, rules}
use mir.Syntax.{w128}
use Rattle.std.proofs.lemmas.Int.{to_z-of_z}
use Rattle.homeo_meaning.specs.Serial.{values_of}
use Rattle.homeo_follow.specs.Key.{definitions}
use Rattle.homeo_follow.specs.Rebased.{gained, gains}
use Rattle.homeo_outline.proofs.Rebased.{checked}
use Rattle.homeo_outline.proofs.rebasing.constant_after.Goals as goal

pub returns : goal.returns
unfolding definitions
returns c =
    let g = gains (values_of c.args.from.now) (values_of c.args.to.now) in
    let constant = c.args.form.now.constant in
    let more = c.in_ok-gained.gained in
    let constant_fits : SFits w128 constant = search rules in
    let more_fits : SFits w128 more = search rules in
    checked ◌+ℤ◌ c.checked_add.result _ _ constant _ c.checked_add.ensures
    (to_z-of_z w128 constant constant_fits) (to_z-of_z w128 more more_fits ∙ c.in_ok-gained.ensures ∙ ap (gained g) c.as_slice.ensures)
