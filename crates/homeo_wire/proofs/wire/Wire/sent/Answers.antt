use Rattle.std.proofs.Common.{length, sym, ap, ◌∙◌}
use Rattle.std.proofs.lemmas.List.{length-map}
use Rattle.homeo_wire.specs.Key.{definitions}
use Rattle.homeo_wire.specs.WireView.{WireValue, plain_packet}
use Rattle.homeo_wire.proofs.wire.Wire.sent.Goals as goal

pub returns : goal.returns
unfolding definitions
returns c =
    let f = c.self.inside in
    ap length c.as_slice.ensures ∙ sym (length-map f.packets.items plain_packet) ∙ ap (λ (v : WireValue). length v.world.packets) c.self.view_is
