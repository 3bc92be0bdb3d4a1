use Rattle.homeo_wire.specs.Key.{definitions}
use Rattle.std.proofs.Common.{◌≡◌, ◌<◌, length, Some, refl, sym, subst, arith}
use Rattle.std.specs.Prelude.{slice_get}
use Rattle.std.proofs.lemmas.Option.{slice_get_read}
use Rattle.homeo_syntax.specs.SourceView.{plain_workload}
use Rattle.homeo_plan.specs.Planned.{sites_of}
use Rattle.homeo_wire.specs.WireView.{WireValue}
use Rattle.homeo_wire.proofs.Wires.{count_is, node_at, read_at}
use Rattle.homeo_wire.proofs.wire.Wire.node.Goals as goal

pub index-requires : goal.index-requires
index-requires c =
    let f = c.self.inside in
    let lt : c.args.site < length f.nodes.items = subst (λ k. c.args.site < k) (sym (count_is f.planner f.nodes.items f.packets.items c.self.invariant)) (subst (λ (v : WireValue). c.args.site < sites_of (plain_workload v.work)) (sym c.self.view_is) c.requires) in
    let ok = f.nodes.ok.0 in
    omega (arith, lt, ok)

pub returns : goal.returns
unfolding definitions
returns c =
    let f = c.self.inside in
    let lt : c.args.site < length f.nodes.items = subst (λ k. c.args.site < k) (sym (count_is f.planner f.nodes.items f.packets.items c.self.invariant)) (subst (λ (v : WireValue). c.args.site < sites_of (plain_workload v.work)) (sym c.self.view_is) c.requires) in
    let p = c.index.result.now in
    let here : slice_get f.nodes.items c.args.site ≡ Some p = slice_get_read f.nodes.items _ c.args.site p refl lt c.index.ensures in
    record {
      view = λ m there. read_at f.nodes.items f.packets.items c.args.site p m here (subst (λ (v : WireValue). slice_get v.world.nodes c.args.site ≡ Some m) (sym c.self.view_is) there);
      base = (node_at f.planner f.nodes.items f.packets.items c.self.invariant c.args.site p here).base_is;
    }
