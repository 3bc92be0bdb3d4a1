-- What is kept is what the form brings here too, and that is it rebased.
use Rattle.std.proofs.Common.{ap, ◌∙◌}
use Rattle.homeo_syntax.specs.LowView.{plain_lcommand}
use Rattle.homeo_follow.specs.Brought.{plain_part}
use Rattle.homeo_build.proofs.Following.{kept_same, kept_stays}
use Rattle.homeo_build.proofs.parts.part_after.Goals as goal

pub returns-then-stays-clause-part : goal.returns-then-stays-clause-part
returns-then-stays-clause-part c =
    ap plain_part c.in_ok-part.ensures
    ∙ kept_same c.args.from.now c.args.to.now (plain_lcommand c.args.form.now) (plain_part c.args.kept.now.value) c.requires.kept
    (c.requires.stays c.if-stays.true)

pub returns-then-stays-clause-rebased : goal.returns-then-stays-clause-rebased
returns-then-stays-clause-rebased c = λ yes.
    returns-then-stays-clause-part c
    ∙ kept_stays c.args.from.now c.args.to.now (plain_lcommand c.args.form.now) (plain_part c.args.kept.now.value) c.requires.kept
    (c.requires.stays c.if-stays.true)
