use Rattle.std.proofs.Common.{◌≡◌, ap, subst, sym, ◌∙◌}
use Rattle.homeo_desk.specs.Places.{made_in}
use Rattle.std.specs.Prelude.{All, ◌==◌}
use Rattle.homeo_syntax.specs.SourceView.{plain_workload}
use Rattle.homeo_history.specs.Legal.{IsCallAt}
use Rattle.homeo_nodes.specs.Small.{Small}
use Rattle.homeo_desk.specs.declared.state.DeskState.{DeskState}
use Rattle.homeo_desk.specs.DeskView.{DeskValue, Reply, CanBegin, KeepsFirst, calls_of, desk_of, plain_reply}
use Rattle.homeo_desk.proofs.Keeping.{state_is, all_somes, all_unmapped}
use Rattle.homeo_desk.proofs.desk.Desk.state.Goals as goal

pub returns-clause-state : goal.returns-clause-state
returns-clause-state c =
    let i = c.self.inside in
    let state : DeskState = record { node = c.in_ok-node.node; made = c.made_in-made.result; queue = c.in_ok-queue.queue; answered = c.in_ok-answered.answered } in
    subst (λ (d : DeskValue). desk_of d.work state ≡ d) c.self.view_is
    (state_is i.node.work i.node.node i.callers.places i.callers.queue.items i.callers.answered state c.in_ok-node.ensures
    (c.made_in-made.ensures ∙ ap (made_in i.callers.places.round i.callers.places.made) c.round.ensures) c.in_ok-queue.ensures c.in_ok-answered.ensures c.self.invariant.last)

pub returns-clause-can_begin : goal.returns-clause-can_begin
returns-clause-can_begin c =
    let i = c.self.inside in
    let w = plain_workload i.node.work in
    let node = c.in_ok-node.node in
    let number : node.site ≡ i.node.node.number = ap (λ (x : Small). x.number) c.in_ok-node.ensures in
    let at : Reply → Type 0 = λ r. IsCallAt w node.site r.call in
    let state : DeskState = record { node = node; made = c.made_in-made.result; queue = c.in_ok-queue.queue; answered = c.in_ok-answered.answered } in
    subst (λ (d : DeskValue). CanBegin (plain_workload d.work) state) c.self.view_is (record {
      paired = ap calls_of c.in_ok-queue.ensures ∙ c.self.invariant.paired ∙ sym (ap (λ (x : Small). x.queue) c.in_ok-node.ensures);
      first = subst KeepsFirst (sym c.in_ok-node.ensures) c.self.invariant.first;
      answers = all_unmapped at plain_reply c.in_ok-answered.answered.items (subst (All at) (sym c.in_ok-answered.ensures)
          (all_somes at i.callers.answered (λ k r e. subst (λ s. IsCallAt w s r.call) (sym number) ((c.self.invariant.last.each k r e).1))));
    })
