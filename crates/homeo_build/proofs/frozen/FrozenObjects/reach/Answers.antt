-- Those past the end were frozen nowhere.
use Rattle.std.proofs.Common.{arith}
use Rattle.homeo_build.proofs.FrozenSteps.{reached}
use Rattle.homeo_build.proofs.frozen.FrozenObjects.reach.Goals as goal

pub returns-clause-same : goal.returns-clause-same
returns-clause-same c =
    reached c.args.self.now.objects.items _ _ _ (omega (arith, c.if-count-len.false)) c.in_ok-resize.ensures.items
