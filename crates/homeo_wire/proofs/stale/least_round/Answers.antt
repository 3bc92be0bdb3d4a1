use Rattle.std.proofs.Common.{◌≡◌, ◌≤◌, Some, refl, subst, arith}
use Rattle.std.specs.Prelude.{slice_get}
use Rattle.std.proofs.lemmas.Option.{slice_get_read, slice_get_within}
use Rattle.std.proofs.lemmas.Bool.{cases_eq}
use mathlib.Core.Logic.{⊎_elim}
use Rattle.homeo_lemmas.proofs.Places.{one_placed}
use Rattle.homeo_wire.specs.declared.node.Node.{Node}
use Rattle.homeo_wire.proofs.stale.least_round.Goals as goal

pub loop-node-preserved : goal.loop-node-preserved
loop-node-preserved c = λ i x lt at.
    let nodes = c.args.nodes.now in
    let place = c.loop-node.node-index in
    let node = c.node-item.result in
    let here : slice_get nodes place ≡ Some node = slice_get_read nodes _ place node refl c.loop-node-test.true c.node-item.is in
    let least = c.min-least.ensures in
    let round = c.round.ensures in
    ⊎_elim (λ e. let is : node ≡ x = one_placed nodes place node x here (subst (λ k. slice_get nodes k ≡ Some x) e at) in subst (λ (y : Node). c.min-least.result ≤ y.site.state.round) is (omega (arith, least, round))) (λ other. let was = c.loop-node.invariant i x (omega (arith, lt, other)) at in omega (arith, was, least)) (cases_eq i place)

pub returns : goal.returns
returns c = λ i x at. c.loop-node.invariant i x (let lt = slice_get_within c.args.nodes.now i x at in omega (arith, lt, c.loop-node-test.false)) at
