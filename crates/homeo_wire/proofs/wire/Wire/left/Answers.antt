use Rattle.homeo_wire.specs.Key.{definitions}
use Rattle.std.proofs.Common.{◌≡◌, ℕ, ◌<◌, ◌≤◌, ◌+◌, ◌-◌, length, map, get_or, sym, ap, subst, ◌∙◌, arith, slice_index_or}
use Rattle.homeo_lemmas.proofs.Places.{get_map}
use Rattle.homeo_syntax.specs.SourceView.{plain_workload}
use Rattle.homeo_syntax.specs.declared.workload.Workload.{Workload}
use Rattle.homeo_history.specs.Legal.{IsClientAt, call_count}
use Rattle.homeo_wire.specs.inner.Ready.{counted_by}
use Rattle.homeo_wire.specs.Read.{last_round, history_in, counts_in}
use Rattle.homeo_wire.specs.WireView.{WireValue, plain_journal, plain_node, world_of}
use Rattle.homeo_wire.proofs.Wires.{node_stands, home_below, held, call_made, counted_is, counts_exist, journals_here}
use Rattle.homeo_wire.proofs.wire.Wire.left.Goals as goal
use Rattle.homeo_wire.proofs.wire.Wire.left.Goals.{After-call_count}

pub bounds-nodes-site_of : goal.bounds-nodes-site_of
bounds-nodes-site_of c =
    let f = c.self.inside in
    let own = subst (λ (v : Workload). IsClientAt (plain_workload v) c.site_of.result c.args.client) (c.workload-w.ensures ∙ c.compiled.ensures) c.site_of.ensures in
    let lt = home_below f.planner f.nodes.items f.packets.items c.self.invariant c.args.client c.site_of.result own in
    subst (λ xs. c.site_of.result < length xs) (sym c.as_slice-nodes.ensures.value) lt

pub counted-counted-requires : goal.counted-counted-requires
counted-counted-requires c =
    let f = c.self.inside in
    let home = c.site_of.result in
    let p = c.index-nodes-site_of.result in
    let own = subst (λ (v : Workload). IsClientAt (plain_workload v) home c.args.client) (c.workload-w.ensures ∙ c.compiled.ensures) c.site_of.ensures in
    let lt = home_below f.planner f.nodes.items f.packets.items c.self.invariant c.args.client home own in
    let node = node_stands f.planner f.nodes.items f.packets.items c.self.invariant home p lt (c.index-nodes-site_of.is ∙ ap (λ xs. get_or xs home p) c.as_slice-nodes.ensures.value) in
    let exists = subst (λ (v : WireValue). c.args.client < length (plain_workload v.work).clients) (sym c.self.view_is) c.requires in
    call_made f.planner f.nodes.items f.packets.items c.self.invariant c.args.client home own p node.here exists

-- the calls of the client that stand in the history, and all
abbrev made : After-call_count → ℕ
made c = slice_index_or (counts_in (plain_workload c.self.inside.planner) (history_in (world_of c.self.inside.nodes.items c.self.inside.packets.items)).rounds) c.args.client 0

made_is : (c : After-call_count) → c.counted-counted.result ≡ made c
unfolding definitions
made_is c =
    let f = c.self.inside in
    let wire = c.self.invariant in
    let home = c.site_of.result in
    let p = c.index-nodes-site_of.result in
    let own = subst (λ (v : Workload). IsClientAt (plain_workload v) home c.args.client) (c.workload-w.ensures ∙ c.compiled.ensures) c.site_of.ensures in
    let lt = home_below f.planner f.nodes.items f.packets.items wire c.args.client home own in
    let node = node_stands f.planner f.nodes.items f.packets.items wire home p lt (c.index-nodes-site_of.is ∙ ap (λ xs. get_or xs home p) c.as_slice-nodes.ensures.value) in
    let last = c.last_round.ensures ∙ ap (λ xs. last_round (map plain_journal xs)) c.as_slice-nodes.ensures.value ∙ ap last_round (sym (journals_here f.planner f.nodes.items f.packets.items wire)) in
    c.counted-counted.ensures ∙ ap (λ k. counted_by k c.args.client (plain_node p) p.mode) last
    ∙ counted_is (plain_workload f.planner) (world_of f.nodes.items f.packets.items) wire.accepted (held f.planner f.nodes.items f.packets.items wire) c.args.client home own (plain_node p) (get_map plain_node f.nodes.items home p node.here)

all_are : (c : After-call_count) → c.call_count.result ≡ call_count (plain_workload c.self.inside.planner) c.args.client
all_are c =
    c.call_count.ensures.count ∙ ap (λ (v : Workload). call_count (plain_workload v) c.args.client) (c.workload-w.ensures ∙ c.compiled.ensures)

few : (c : After-call_count) → made c ≤ call_count (plain_workload c.self.inside.planner) c.args.client
few c =
    let f = c.self.inside in
    counts_exist (plain_workload f.planner) (world_of f.nodes.items f.packets.items) c.self.invariant.accepted (held f.planner f.nodes.items f.packets.items c.self.invariant) c.args.client

pub overflow_sub-result : goal.overflow_sub-result
overflow_sub-result c =
    let e = (goal.at.overflow_sub-result c).After-call_count in
    omega (arith, made_is e, all_are e, few e)

pub returns : goal.returns
unfolding definitions
returns c =
    let e = (goal.at.returns c).After-call_count in
    let all : c.call_count.result - c.counted-counted.result + made e ≡ call_count (plain_workload c.self.inside.planner) c.args.client = omega (arith, made_is e, all_are e, few e) in
    subst (λ (v : WireValue). c.call_count.result - c.counted-counted.result + slice_index_or (counts_in (plain_workload v.work) (history_in v.world).rounds) c.args.client 0 ≡ call_count (plain_workload v.work) c.args.client) c.self.view_is all
