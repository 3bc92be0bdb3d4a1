use Rattle.std.proofs.Common.{◌+◌, [], ◌∷◌, sym, ap, subst, ◌∙◌, FitsSigned}
use Rattle.std.specs.Int.{w64}
use Rattle.std.specs.Prelude.{All}
use Rattle.std.proofs.lemmas.List.{take-map}
use Rattle.homeo_core.specs.Joined.{gathered}
use Rattle.homeo_wire.specs.Key.{definitions}
use Rattle.homeo_wire.specs.Read.{sites_in}
use Rattle.homeo_wire.specs.WireView.{plain_journal}
use Rattle.homeo_wire.proofs.Histories.{last_more, last_none, last_all}
use Rattle.homeo_wire.proofs.history.add_nodes.Goals as goal

pub loop-node-init : goal.loop-node-init
loop-node-init c = last_none c.args.values.now c.args.round c.args.nodes.now

pub add_node-requires : goal.add_node-requires
unfolding definitions
add_node-requires c =
    let i = c.loop-node.node-index in
    let nodes = c.args.nodes.now in
    subst (All (FitsSigned w64)) (ap (λ js. gathered c.args.values.now (sites_in c.args.round js)) (take-map plain_journal (i + 1) nodes) ∙ last_more c.args.values.now c.args.round nodes i c.node-item.result c.loop-node-test.true c.node-item.is ∙ ap (λ v. gathered v (sites_in c.args.round (plain_journal c.node-item.result ∷ []))) (sym c.loop-node.invariant)) (c.requires (i + 1))

pub loop-node-preserved : goal.loop-node-preserved
unfolding definitions
loop-node-preserved c =
    c.add_node.ensures ∙ ap (λ v. gathered v (sites_in c.args.round (plain_journal c.node-item.result ∷ []))) c.loop-node.invariant
    ∙ sym (last_more c.args.values.now c.args.round c.args.nodes.now c.loop-node.node-index c.node-item.result c.loop-node-test.true c.node-item.is)

pub returns : goal.returns
returns c = c.loop-node.invariant ∙ last_all c.args.values.now c.args.round c.args.nodes.now c.loop-node.node-index c.loop-node-test.false
