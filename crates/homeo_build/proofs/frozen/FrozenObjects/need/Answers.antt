-- One object more.
use Rattle.std.proofs.Common.{◌==◌, not}
use Rattle.homeo_build.specs.inner.Frozen.{is_frozen_in}
use Rattle.homeo_build.proofs.FrozenSteps.{nothing_needed, elsewhere_next}
use Rattle.homeo_build.proofs.frozen.FrozenObjects.need.Goals as goal

pub loop-delta-init : goal.loop-delta-init
loop-delta-init c = λ x j. nothing_needed (is_frozen_in c.args.self.now x j) (not (j == c.args.site))

pub loop-delta-preserved : goal.loop-delta-preserved
loop-delta-preserved c =
    elsewhere_next (is_frozen_in c.args.self.now) c.loop-delta.self c.set.new.self c.args.deltas.now c.loop-delta.delta-index _ c.loop-delta-test.true _
    c.in_ok-set.ensures c.of_object-so_far.result c.args.site c.of_object-so_far.ensures c.and_elsewhere.ensures c.loop-delta.invariant
