use Rattle.homeo_wire.specs.Key.{definitions}
use Rattle.std.proofs.Common.{◌≡◌, ◌-◌, suc, true, false, refl, sym, ap, ◌∙◌, arith}
use Rattle.homeo_syntax.specs.SourceView.{plain_workload}
use Rattle.homeo_wire.specs.Drive.{call_of_each, until_made, has_left}
use Rattle.homeo_wire.specs.Nodes.{after}
use Rattle.homeo_wire.proofs.Driving.{made_next, made_end}
use Rattle.homeo_wire.proofs.driver.until_made.Goals as goal

pub loop-init : goal.loop-init
loop-init c = record {
  work = refl;
  rest = λ n e. let same : n ≡ c.args.count = omega (arith, e) in
      ap (λ k. after (plain_workload c.args.wire.now.work) (until_made (plain_workload c.args.wire.now.work) c.args.wire.now.world k) c.args.wire.now.world) same;
}

pub returns-then-not-has_left-clause-world : goal.returns-then-not-has_left-clause-world
returns-then-not-has_left-clause-world c =
    let w = plain_workload c.args.wire.now.work in
    let x = c.loop.wire.world in
    let same : plain_workload c.loop.wire.work ≡ w = ap plain_workload c.loop.invariant.work in
    let none : has_left w x ≡ false = ap (λ v. has_left v x) (sym same) ∙ sym c.has_left.ensures ∙ c.if-not-has_left.true in
    let m = c.args.count - suc c.loop.counter in
    sym (made_end w x m none) ∙ c.loop.invariant.rest (suc m) (omega (arith, c.loop-test.true))

pub loop-preserved : goal.loop-preserved
loop-preserved c =
    let w = plain_workload c.args.wire.now.work in
    let x = c.loop.wire.world in
    let y = c.call_of_each.new.wire.world in
    let same : plain_workload c.loop.wire.work ≡ w = ap plain_workload c.loop.invariant.work in
    let some : has_left w x ≡ true = ap (λ v. has_left v x) (sym same) ∙ sym c.has_left.ensures ∙ c.if-not-has_left.false in
    let is : y ≡ after w (call_of_each w x) x = c.in_ok-call_of_each.ensures.world ∙ ap (λ v. after v (call_of_each v x) x) same in record {
      work = c.in_ok-call_of_each.ensures.work ∙ c.loop.invariant.work;
      rest = λ n e. sym (made_next w x y n some is) ∙ c.loop.invariant.rest (suc n) (omega (arith, e));
    }

pub returns-clause-world : goal.returns-clause-world
unfolding definitions
returns-clause-world c = c.loop.invariant.rest 0 (omega (arith, c.loop-test.false, c.loop.auto.counter-end))
