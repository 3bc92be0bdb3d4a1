-- What the terms gained is taken from the slack.
use Rattle.std.proofs.Common.{◌-ℤ◌, ◌∙◌, SFits, rules}
use mir.Syntax.{w128}
use Rattle.std.proofs.lemmas.Int.{to_z-of_z}
use Rattle.homeo_meaning.specs.Serial.{values_of}
use Rattle.homeo_follow.specs.Key.{definitions}
use Rattle.homeo_follow.specs.Rebased.{gains}
use Rattle.homeo_outline.proofs.Rebased.{checked}
use Rattle.homeo_outline.proofs.rebasing.slack_after.Goals as goal

pub returns : goal.returns
unfolding definitions
returns c =
    let g = gains (values_of c.args.from.now) (values_of c.args.to.now) in
    let slack = c.args.slack in
    let gone = c.in_ok-gained.gained in
    let slack_fits : SFits w128 slack = search rules in
    let gone_fits : SFits w128 gone = search rules in
    checked ◌-ℤ◌ c.checked_sub.result _ _ slack _ c.checked_sub.ensures
    (to_z-of_z w128 slack slack_fits) (to_z-of_z w128 gone gone_fits ∙ c.in_ok-gained.ensures)
