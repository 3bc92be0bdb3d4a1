-- One object more.
use Rattle.std.proofs.Common.{ap, ◌++◌, ◌∙◌}
use Rattle.homeo_build.specs.inner.Frozen.{frozen_from}
use Rattle.homeo_build.proofs.FrozenSites.{objects_next, objects_end}
use Rattle.homeo_build.proofs.frozen.FrozenObjects.deltas.Goals as goal

pub loop-object-init : goal.loop-object-init
loop-object-init c = ap (λ l. l ++ frozen_from c.args.sites 0 c.as_slice-frozen-items.result.now) c.new-deltas.ensures.items

pub loop-object-preserved : goal.loop-object-preserved
loop-object-preserved c =
    objects_next c.args.sites c.as_slice-frozen-items.result.now c.loop-object.deltas.items _ c.loop-object.object _ c.loop-object-test.true
    c.in_ok-push_frozen.ensures
    ∙ c.loop-object.invariant

pub returns : goal.returns
returns c =
    objects_end c.args.sites c.as_slice-frozen-items.result.now c.loop-object.deltas.items c.loop-object.object c.loop-object-test.false
    ∙ c.loop-object.invariant ∙ ap (frozen_from c.args.sites 0) c.as_slice-frozen-items.ensures.value
