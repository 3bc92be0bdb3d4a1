-- What is not made is larger than a call may be.
use Rattle.std.proofs.Common.{sym}
use Rattle.homeo_ground.specs.Sited.{values}
use Rattle.homeo_rules.proofs.Measured.{past}
use Rattle.homeo_rules.proofs.rules.bodies.Bodies.measure_new.Goals as goal

pub returns-then-branch-clause-measure : goal.returns-then-branch-clause-measure
returns-then-branch-clause-measure c =
    past c.args.measuring.now c.find-t.result.now c.args.body c.requires.set_up c.find-t.ensures (values c.args.args.now) (sym c.requires.args) (c.in_ok-is_past_all.ensures c.if-branch.true)
