use Rattle.homeo_wire.specs.Key.{definitions}
use Rattle.std.proofs.Common.{subst}
use Rattle.homeo_wire.specs.inner.Stale.{AreStale}
use Rattle.homeo_wire.specs.WireView.{WireValue, world_of}
use Rattle.homeo_wire.proofs.wire.Wire.stale.Goals as goal

pub returns : goal.returns
unfolding definitions
returns c =
    let f = c.self.inside in
    let count = c.count_stale.result in
    subst (λ (v : WireValue). AreStale v.world count) c.self.view_is (subst (λ ps. AreStale (world_of f.nodes.items ps) count) c.as_slice-2.ensures (subst (λ ns. AreStale (world_of ns c.as_slice-2.result.now) count) c.as_slice.ensures.value c.count_stale.ensures))
