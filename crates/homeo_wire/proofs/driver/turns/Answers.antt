use Rattle.homeo_wire.specs.Key.{definitions}
use Rattle.std.proofs.Common.{◌≡◌, suc, refl, sym, ap, ◌∙◌, arith}
use Rattle.homeo_syntax.specs.SourceView.{plain_workload}
use Rattle.homeo_draws.specs.Draws.{next_state, drawn}
use Rattle.homeo_wire.specs.Drive.{turns, chosen_event}
use Rattle.homeo_wire.specs.Nodes.{after}
use Rattle.homeo_wire.proofs.Driving.{turn_next}
use Rattle.homeo_wire.proofs.driver.turns.Goals as goal

pub loop-init : goal.loop-init
loop-init c = record {
  work = refl;
  rest = λ n e. let same : n ≡ c.args.count = omega (arith, e) in
      ap (λ k. after (plain_workload c.args.wire.now.work) (turns (plain_workload c.args.wire.now.work) c.args.wire.now.world c.args.number k) c.args.wire.now.world) same;
}

pub loop-preserved : goal.loop-preserved
loop-preserved c =
    let w = plain_workload c.args.wire.now.work in
    let x = c.loop.wire.world in
    let y = c.turn.new.wire.world in
    let s = c.loop.draws.state in
    let same : plain_workload c.loop.wire.work ≡ w = ap plain_workload c.loop.invariant.work in
    let is : y ≡ after w (chosen_event w x (drawn (next_state s)) (drawn (next_state (next_state s)))) x =
    c.in_ok-turn.ensures.world ∙ ap (λ v. after v (chosen_event v x (drawn (next_state s)) (drawn (next_state (next_state s)))) x) same in record {
      work = c.in_ok-turn.ensures.work ∙ c.loop.invariant.work;
      rest = λ n e.
          ap (λ t. after w (turns w y t n) y) c.in_ok-turn.ensures.draws ∙ sym (turn_next w x y s n is)
          ∙ c.loop.invariant.rest (suc n) (omega (arith, e));
    }

pub returns-clause-world : goal.returns-clause-world
unfolding definitions
returns-clause-world c = c.loop.invariant.rest 0 (omega (arith, c.loop-test.false, c.loop.auto.counter-end))
