-- One atom more.
use Rattle.homeo_lemmas.proofs.Bools.{or_nothing}
use Rattle.homeo_build.specs.inner.Frozen.{is_frozen_in}
use Rattle.homeo_build.proofs.FrozenSteps.{mixed_next}
use Rattle.homeo_build.proofs.frozen.FrozenObjects.mix.Goals as goal

pub loop-atom-init : goal.loop-atom-init
loop-atom-init c = λ x j. or_nothing (is_frozen_in c.args.self.now x j)

pub loop-atom-preserved : goal.loop-atom-preserved
loop-atom-preserved c =
    mixed_next (is_frozen_in c.args.self.now) c.loop-atom.self c.freeze.new.self c.args.atoms.now c.loop-atom.atom-index c.atom-item.result _
    c.loop-atom-test.true c.atom-item.is c.as_slice.ensures c.loop-atom.invariant c.in_ok-freeze.ensures
