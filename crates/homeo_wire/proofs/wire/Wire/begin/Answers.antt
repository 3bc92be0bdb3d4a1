use Rattle.homeo_wire.specs.Key.{definitions}
use Rattle.std.proofs.Common.{◌≡◌, [], map, sym, ap, subst}
use Rattle.homeo_syntax.specs.Listed.{Listed}
use Rattle.homeo_wire.specs.declared.events.Packet.{Packet}
use Rattle.homeo_wire.specs.inner.Standing.{IsWire}
use Rattle.homeo_wire.specs.WireView.{plain_packet}
use Rattle.homeo_wire.proofs.Wires.{begun_wire}
use Rattle.homeo_wire.proofs.wire.Wire.begin.Goals as goal

pub invariant_of-result : goal.invariant_of-result
invariant_of-result c =
    let work = c.args.c.value in
    let none : c.new-2.result.items ≡ [] = ap (λ (l : Listed Packet). l.items) c.new-2.ensures in
    subst (λ v. IsWire v c.in_ok-nodes.nodes.items c.new-2.result.items) (sym c.new.ensures)
    (subst (IsWire work c.in_ok-nodes.nodes.items) (sym none)
    (begun_wire work c.in_ok-nodes.nodes.items (c.in_ok-nodes.ensures.accepted) c.in_ok-nodes.ensures.nodes c.in_ok-nodes.ensures.each))

pub returns : goal.returns
unfolding definitions
returns c =
    let nodes = c.in_ok-nodes.ensures.nodes in
    let none : map plain_packet c.new-2.result.items ≡ [] = ap (λ (l : Listed Packet). map plain_packet l.items) c.new-2.ensures in
    λ j. record { work = c.new.ensures j; world = record { nodes = nodes j; packets = none j } }
