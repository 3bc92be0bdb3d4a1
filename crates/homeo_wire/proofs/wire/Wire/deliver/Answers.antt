use Rattle.homeo_wire.specs.Key.{definitions}
use Rattle.std.proofs.Common.{rules, ◌≡◌, ◌<◌, length, Some, get_or, Ok, refl, sym, ap, subst, ◌∙◌, arith, slice_set}
use Rattle.std.specs.Prelude.{slice_get}
use Rattle.std.proofs.lemmas.List.{length-map}
use Rattle.homeo_syntax.specs.SourceView.{plain_workload}
use Rattle.homeo_plan.specs.Planned.{sites_of}
use Rattle.homeo_core.proofs.CallsMade.{on_err_map}
use Rattle.homeo_wire.specs.declared.events.Event.TheVariants.{Deliver}
use Rattle.homeo_wire.specs.declared.events.Step.TheVariants.{Ignored}
use Rattle.homeo_wire.specs.inner.Ready.{CanTake, IsFrom}
use Rattle.homeo_wire.specs.inner.Standing.{IsWire}
use Rattle.homeo_wire.specs.Laws.{HasOneBase}
use Rattle.homeo_wire.specs.Nodes.{round_of}
use Rattle.homeo_wire.specs.WireView.{WireValue, plain_packet, plain_state, plain_node, world_of}
use Rattle.homeo_wire.proofs.Wires.{HasHappened, Stands, node_stands, site_below, packet_below, packet_at, takes_at, from_at, one_base_here, other_round, own_round, same_world}
use Rattle.homeo_wire.proofs.wire.Wire.deliver.Goals as goal
use Rattle.homeo_wire.proofs.wire.Wire.deliver.Goals.{After-index_mut-node, After-receive}

pub bounds-as_slice-packet : goal.bounds-as_slice-packet
bounds-as_slice-packet c =
    let f = c.self.inside in
    let lt = packet_below f.planner f.nodes.items f.packets.items c.self.invariant c.args.self.now c.self.view_is c.args.packet c.requires.packet in
    subst (λ xs. c.args.packet < length xs) (sym c.as_slice.ensures) lt

pub offset_bounds-as_slice-packet : goal.offset_bounds-as_slice-packet
offset_bounds-as_slice-packet c =
    let f = c.self.inside in
    let lt = packet_below f.planner f.nodes.items f.packets.items c.self.invariant c.args.self.now c.self.view_is c.args.packet c.requires.packet in
    let h : c.args.packet < length c.as_slice.result.now = subst (λ xs. c.args.packet < length xs) (sym c.as_slice.ensures) lt in
    let t = c.as_slice.type_inv in
    search rules

pub index_mut-node-requires : goal.index_mut-node-requires
index_mut-node-requires c =
    let f = c.self.inside in
    let lt = site_below f.planner f.nodes.items f.packets.items c.self.invariant c.args.self.now c.self.view_is c.args.site c.requires.site in
    let ok = f.nodes.ok.0 in
    omega (arith, lt, ok)

-- the packet that comes
packet_is : (c : After-index_mut-node) → slice_get c.self.inside.packets.items c.args.packet ≡ Some c.index-as_slice-packet.result
packet_is c =
    let f = c.self.inside in
    packet_at f.planner f.nodes.items f.packets.items c.self.invariant c.args.self.now c.self.view_is c.args.packet c.index-as_slice-packet.result c.requires.packet (c.index-as_slice-packet.is ∙ ap (λ xs. get_or xs c.args.packet c.index-as_slice-packet.result) c.as_slice.ensures)

-- the node to which it comes
node_is : (c : After-index_mut-node) → Stands c.self.inside.planner c.self.inside.nodes.items c.args.site c.index_mut-node.result.now
node_is c =
    let f = c.self.inside in
    node_stands f.planner f.nodes.items f.packets.items c.self.invariant c.args.site c.index_mut-node.result.now (site_below f.planner f.nodes.items f.packets.items c.self.invariant c.args.self.now c.self.view_is c.args.site c.requires.site) c.index_mut-node.ensures.value

-- ---- a packet of another round
abbrev IsLeft : After-index_mut-node → Type 0
IsLeft c =
    HasHappened {E = Unit {0}} c.args.self.now.work c.args.self.now.world (Deliver c.args.site c.args.packet) (slice_set c.self.inside.nodes.items c.args.site c.index_mut-node.result.now) c.self.inside.packets.items (Ok Ignored)

left : (c : After-index_mut-node) → (round_of (plain_packet c.index-as_slice-packet.result) ≡ length c.index_mut-node.result.now.left.items → ⊥) → IsLeft c
unfolding definitions
left c other =
    let f = c.self.inside in
    let p = c.index_mut-node.result.now in
    let node = node_is c in
    subst (λ (v : WireValue). HasHappened {E = Unit {0}} v.work v.world (Deliver c.args.site c.args.packet) (slice_set f.nodes.items c.args.site p) f.packets.items (Ok Ignored)) c.self.view_is
    (other_round f.planner f.nodes.items f.packets.items c.self.invariant c.args.site c.args.packet c.index-as_slice-packet.result (packet_is c) p node.here {E = Unit {0}} Ignored refl (λ same. other (same ∙ sym node.rounds)))

pub returns-then-round-clause-step : goal.returns-then-round-clause-step
returns-then-round-clause-step c =
    (left (goal.at.returns-then-round-clause-step c).After-index_mut-node (λ same. c.if-round.true (c.round.ensures ∙ same ∙ sym c.round-2.ensures.left))).step

pub returns-then-round-clause-world : goal.returns-then-round-clause-world
returns-then-round-clause-world c =
    (left (goal.at.returns-then-round-clause-world c).After-index_mut-node (λ same. c.if-round.true (c.round.ensures ∙ same ∙ sym c.round-2.ensures.left))).world

same_base : (c : After-index_mut-node) → HasOneBase (world_of (slice_set c.self.inside.nodes.items c.args.site c.index_mut-node.result.now) c.self.inside.packets.items)
same_base c =
    let f = c.self.inside in
    subst HasOneBase (sym (same_world f.nodes.items f.packets.items c.args.site c.index_mut-node.result.now (node_is c).here)) (one_base_here f.planner f.nodes.items f.packets.items c.self.invariant)

pub returns-then-round-clause-one_base : goal.returns-then-round-clause-one_base
returns-then-round-clause-one_base c = same_base (goal.at.returns-then-round-clause-one_base c).After-index_mut-node

pub returns-in_err-packet-clause-one_base : goal.returns-in_err-packet-clause-one_base
returns-in_err-packet-clause-one_base c = same_base (goal.at.returns-in_err-packet-clause-one_base c).After-index_mut-node

-- ---- a packet of the node's round
pub receive-requires-clause-work : goal.receive-requires-clause-work
receive-requires-clause-work c = (node_is (goal.at.receive-requires-clause-work c).After-index_mut-node).node.work_is

pub receive-requires-clause-base : goal.receive-requires-clause-base
receive-requires-clause-base c = (node_is (goal.at.receive-requires-clause-base c).After-index_mut-node).node.base_is

pub receive-requires-clause-own : goal.receive-requires-clause-own
unfolding definitions
receive-requires-clause-own c =
    let f = c.self.inside in
    let below = subst (λ (v : WireValue). c.args.site < sites_of (plain_workload v.work)) (sym c.self.view_is) c.requires.site in
    subst (λ m. m < sites_of (plain_workload f.planner)) (sym (node_is (goal.at.receive-requires-clause-own c).After-index_mut-node).ready.number) below

pub receive-requires-clause-round : goal.receive-requires-clause-round
receive-requires-clause-round c =
    let rounds = (node_is (goal.at.receive-requires-clause-round c).After-index_mut-node).rounds in
    let left = c.round-2.ensures.left in
    let few = c.round-2.ensures.few in
    omega (arith, rounds, left, few)

pub receive-requires-clause-states : goal.receive-requires-clause-states
unfolding definitions
receive-requires-clause-states c =
    sym (length-map c.index_mut-node.result.now.states.items plain_state) ∙ (node_is (goal.at.receive-requires-clause-states c).After-index_mut-node).ready.states
    ∙ sym (c.site_count-sites.ensures.count ∙ ap (λ v. sites_of (plain_workload v)) (c.workload.ensures ∙ c.compiled.ensures))

pub receive-requires-clause-from : goal.receive-requires-clause-from
receive-requires-clause-from c =
    let f = c.self.inside in
    let sites = c.site_count-sites.ensures.count ∙ ap (λ v. sites_of (plain_workload v)) (c.workload.ensures ∙ c.compiled.ensures) in
    let from = from_at f.planner f.nodes.items f.packets.items c.self.invariant c.args.packet c.index-as_slice-packet.result (packet_is (goal.at.receive-requires-clause-from c).After-index_mut-node) in
    subst (λ m. IsFrom m (plain_packet c.in_ok-packet.packet)) (sym sites) (subst (IsFrom (sites_of (plain_workload f.planner))) (sym c.in_ok-packet.ensures) from)

pub receive-requires-clause-can : goal.receive-requires-clause-can
receive-requires-clause-can c =
    let f = c.self.inside in
    let e = (goal.at.receive-requires-clause-can c).After-index_mut-node in
    let p = c.index_mut-node.result.now in
    let q = c.index-as_slice-packet.result in
    let round : round_of (plain_packet q) ≡ p.site.state.round = sym c.round.ensures ∙ c.if-round.false ∙ c.round-2.ensures.left ∙ (node_is e).rounds in
    subst (CanTake (plain_workload f.planner) (plain_node p)) (sym c.in_ok-packet.ensures) (takes_at f.planner f.nodes.items f.packets.items c.self.invariant c.args.site p (node_is e).here c.args.packet q (packet_is e) round)

-- what it has made of nodes and packets
taken : (c : After-receive) → HasHappened c.self.inside.planner (world_of c.self.inside.nodes.items c.self.inside.packets.items) (Deliver c.args.site c.args.packet) (slice_set c.self.inside.nodes.items c.args.site c.receive.new.self) c.receive.new.packets.items c.receive.result
taken c =
    let f = c.self.inside in
    let p = c.index_mut-node.result.now in
    let q = c.index-as_slice-packet.result in
    let sent : slice_get f.packets.items c.args.packet ≡ Some q = packet_at f.planner f.nodes.items f.packets.items c.self.invariant c.args.self.now c.self.view_is c.args.packet q c.requires.packet (c.index-as_slice-packet.is ∙ ap (λ xs. get_or xs c.args.packet q) c.as_slice.ensures) in
    let below = site_below f.planner f.nodes.items f.packets.items c.self.invariant c.args.self.now c.self.view_is c.args.site c.requires.site in
    let node = node_stands f.planner f.nodes.items f.packets.items c.self.invariant c.args.site p below c.index_mut-node.ensures.value in
    let round : round_of (plain_packet q) ≡ p.site.state.round = sym c.round.ensures ∙ c.if-round.false ∙ c.round-2.ensures.left ∙ node.rounds in
    own_round f.planner f.nodes.items f.packets.items c.self.invariant c.args.site c.args.packet q sent p node.here c.receive.result c.receive.new.self c.receive.new.packets.items c.in_ok-packet.packet c.in_ok-packet.ensures round c.receive.ensures.reaction c.receive.ensures.unchanged c.receive.ensures.unsent c.receive.ensures.work c.receive.ensures.base

seen : (c : After-receive) → HasHappened c.args.self.now.work c.args.self.now.world (Deliver c.args.site c.args.packet) (slice_set c.self.inside.nodes.items c.args.site c.receive.new.self) c.receive.new.packets.items c.receive.result
seen c =
    subst (λ (v : WireValue). HasHappened v.work v.world (Deliver c.args.site c.args.packet) (slice_set c.self.inside.nodes.items c.args.site c.receive.new.self) c.receive.new.packets.items c.receive.result) c.self.view_is (taken c)

pub invariant_of-self-2 : goal.invariant_of-self-2
invariant_of-self-2 c =
    subst (λ v. IsWire v (slice_set c.self.inside.nodes.items c.args.site c.receive.new.self) c.receive.new.packets.items) (sym c.receive.ensures.planner) (taken (goal.at.invariant_of-self-2 c).After-receive).wire

pub returns-clause-step : goal.returns-clause-step
returns-clause-step c = (seen (goal.at.returns-clause-step c).After-receive).step

pub returns-clause-world : goal.returns-clause-world
returns-clause-world c = (seen (goal.at.returns-clause-world c).After-receive).world

pub returns-clause-work : goal.returns-clause-work
returns-clause-work c = c.receive.ensures.planner ∙ ap (λ (v : WireValue). v.work) c.self.view_is

pub returns-clause-unchanged : goal.returns-clause-unchanged
returns-clause-unchanged c =
    on_err_map c.receive.result _ _ (λ e. (λ j. record { work = c.receive.ensures.planner j; world = e j }) ∙ c.self.view_is) (taken (goal.at.returns-clause-unchanged c).After-receive).unchanged

pub returns-clause-one_base : goal.returns-clause-one_base
returns-clause-one_base c =
    one_base_here c.self.inside.planner (slice_set c.self.inside.nodes.items c.args.site c.receive.new.self) c.receive.new.packets.items (taken (goal.at.returns-clause-one_base c).After-receive).wire
