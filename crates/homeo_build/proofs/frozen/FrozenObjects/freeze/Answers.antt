-- One object more.
use Rattle.std.proofs.Common.{refl}
use Rattle.homeo_lemmas.proofs.Bools.{or_nothing}
use Rattle.homeo_build.specs.inner.Frozen.{is_frozen_in}
use Rattle.homeo_build.proofs.FrozenSteps.{everywhere_next}
use Rattle.homeo_build.proofs.frozen.FrozenObjects.freeze.Goals as goal

pub loop-delta-init : goal.loop-delta-init
loop-delta-init c = λ x j. or_nothing (is_frozen_in c.args.self.now x j)

pub loop-delta-preserved : goal.loop-delta-preserved
loop-delta-preserved c =
    everywhere_next (is_frozen_in c.args.self.now) c.loop-delta.self c.set.new.self c.args.deltas.now c.loop-delta.delta-index _ c.loop-delta-test.true _
    c.in_ok-set.ensures refl c.loop-delta.invariant
