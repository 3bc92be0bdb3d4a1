use Rattle.std.proofs.Common.{◌<◌, length, sym, ap, subst, ◌∙◌, arith, slice_set}
use Rattle.homeo_syntax.specs.SourceView.{plain_workload}
use Rattle.homeo_syntax.specs.declared.workload.Workload.{Workload}
use Rattle.homeo_history.specs.Legal.{IsClientAt, call_count}
use Rattle.homeo_core.proofs.CallsMade.{on_err_map}
use Rattle.homeo_wire.specs.declared.events.Event.TheVariants.{Call}
use Rattle.homeo_wire.specs.WireView.{WireValue, world_of}
use Rattle.homeo_wire.proofs.Wires.{HasHappened, Stands, node_stands, home_below, one_base_here, call_own, call_made, call_happens}
use Rattle.homeo_wire.proofs.wire.Wire.call.Goals as goal
use Rattle.homeo_wire.proofs.wire.Wire.call.Goals.{After-index_mut, After-call}

pub index_mut-requires : goal.index_mut-requires
index_mut-requires c =
    let f = c.self.inside in
    let own = subst (λ (v : Workload). IsClientAt (plain_workload v) c.site_of-home.result c.args.client) (c.workload-w.ensures ∙ c.compiled.ensures) c.site_of-home.ensures in
    let lt = home_below f.planner f.nodes.items f.packets.items c.self.invariant c.args.client c.site_of-home.result own in
    let ok = f.nodes.ok.0 in
    omega (arith, lt, ok)

-- the client is one of the node's
client_is : (c : After-index_mut) → IsClientAt (plain_workload c.self.inside.planner) c.site_of-home.result c.args.client
client_is c =
    subst (λ (v : Workload). IsClientAt (plain_workload v) c.site_of-home.result c.args.client) (c.workload-w.ensures ∙ c.compiled.ensures) c.site_of-home.ensures

node_is : (c : After-index_mut) → Stands c.self.inside.planner c.self.inside.nodes.items c.site_of-home.result c.index_mut.result.now
node_is c =
    let f = c.self.inside in
    node_stands f.planner f.nodes.items f.packets.items c.self.invariant c.site_of-home.result c.index_mut.result.now (home_below f.planner f.nodes.items f.packets.items c.self.invariant c.args.client c.site_of-home.result (client_is c)) c.index_mut.ensures.value

pub call-requires-clause-client : goal.call-requires-clause-client
call-requires-clause-client c =
    let f = c.self.inside in
    let e = (goal.at.call-requires-clause-client c).After-index_mut in
    call_own f.planner f.nodes.items f.packets.items c.self.invariant c.args.client c.site_of-home.result (client_is e) c.index_mut.result.now (node_is e).here

pub call-requires-clause-made : goal.call-requires-clause-made
call-requires-clause-made c =
    let f = c.self.inside in
    let e = (goal.at.call-requires-clause-made c).After-index_mut in
    let exists = subst (λ (v : WireValue). c.args.client < length (plain_workload v.work).clients) (sym c.self.view_is) c.requires in
    call_made f.planner f.nodes.items f.packets.items c.self.invariant c.args.client c.site_of-home.result (client_is e) c.index_mut.result.now (node_is e).here exists

pub call-requires-clause-count : goal.call-requires-clause-count
call-requires-clause-count c =
    c.call_count-count.ensures.count
    ∙ ap (λ (v : Workload). call_count (plain_workload v) c.args.client) ((c.workload-w.ensures ∙ c.compiled.ensures) ∙ sym (node_is (goal.at.call-requires-clause-count c).After-index_mut).node.work_is)

-- what the call has made of nodes and packets
called : (c : After-call) → HasHappened c.self.inside.planner (world_of c.self.inside.nodes.items c.self.inside.packets.items) (Call c.args.client) (slice_set c.self.inside.nodes.items c.site_of-home.result c.call.new.self) c.call.new.packets.items c.call.result
called c =
    let f = c.self.inside in
    let home = c.site_of-home.result in
    let own = subst (λ (v : Workload). IsClientAt (plain_workload v) home c.args.client) (c.workload-w.ensures ∙ c.compiled.ensures) c.site_of-home.ensures in
    let below = home_below f.planner f.nodes.items f.packets.items c.self.invariant c.args.client home own in
    let node = node_stands f.planner f.nodes.items f.packets.items c.self.invariant home c.index_mut.result.now below c.index_mut.ensures.value in
    call_happens f.planner f.nodes.items f.packets.items c.self.invariant c.args.client home own c.index_mut.result.now node.here c.call.result c.call.new.self c.call.new.packets.items c.call.ensures.reaction c.call.ensures.unchanged c.call.ensures.unsent c.call.ensures.work c.call.ensures.base

seen : (c : After-call) → HasHappened c.args.self.now.work c.args.self.now.world (Call c.args.client) (slice_set c.self.inside.nodes.items c.site_of-home.result c.call.new.self) c.call.new.packets.items c.call.result
seen c =
    subst (λ (v : WireValue). HasHappened v.work v.world (Call c.args.client) (slice_set c.self.inside.nodes.items c.site_of-home.result c.call.new.self) c.call.new.packets.items c.call.result) c.self.view_is (called c)

pub invariant_of-self : goal.invariant_of-self
invariant_of-self c = (called (goal.at.invariant_of-self c).After-call).wire

pub returns-clause-step : goal.returns-clause-step
returns-clause-step c = (seen (goal.at.returns-clause-step c).After-call).step

pub returns-clause-world : goal.returns-clause-world
returns-clause-world c = (seen (goal.at.returns-clause-world c).After-call).world

pub returns-clause-unchanged : goal.returns-clause-unchanged
returns-clause-unchanged c =
    on_err_map c.call.result _ _ (λ e. (λ j. record { work = c.self.inside.planner; world = e j }) ∙ c.self.view_is) (called (goal.at.returns-clause-unchanged c).After-call).unchanged

pub returns-clause-one_base : goal.returns-clause-one_base
returns-clause-one_base c =
    let f = c.self.inside in
    one_base_here f.planner (slice_set f.nodes.items c.site_of-home.result c.call.new.self) c.call.new.packets.items (called (goal.at.returns-clause-one_base c).After-call).wire
