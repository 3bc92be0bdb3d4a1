use Rattle.homeo_wire.specs.Key.{definitions}
use Rattle.std.proofs.Common.{◌≡◌, suc, refl, sym, ap, ◌∙◌, arith}
use Rattle.homeo_syntax.specs.SourceView.{plain_workload}
use Rattle.homeo_plan.specs.Planned.{sites_of}
use Rattle.homeo_wire.specs.Drive.{to_sites, sweeps}
use Rattle.homeo_wire.specs.Nodes.{after}
use Rattle.homeo_wire.proofs.Driving.{sweep_next}
use Rattle.homeo_wire.proofs.driver.sweeps.Goals as goal

pub loop-init : goal.loop-init
loop-init c = record {
  work = refl;
  rest = λ n e. let same : n ≡ c.args.count = omega (arith, e) in
      ap (λ k. after (plain_workload c.args.wire.now.work) (sweeps (plain_workload c.args.wire.now.work) c.args.wire.now.world k) c.args.wire.now.world) same;
}

pub loop-preserved : goal.loop-preserved
loop-preserved c =
    let w = plain_workload c.args.wire.now.work in
    let x = c.loop.wire.world in
    let y = c.sweep.new.wire.world in
    let same : plain_workload c.loop.wire.work ≡ w = ap plain_workload c.loop.invariant.work in
    let is : y ≡ after w (to_sites w x 0 (sites_of w)) x = c.in_ok-sweep.ensures.world ∙ ap (λ v. after v (to_sites v x 0 (sites_of v)) x) same in record {
      work = c.in_ok-sweep.ensures.work ∙ c.loop.invariant.work;
      rest = λ n e. sym (sweep_next w x y n (sites_of w) is refl) ∙ c.loop.invariant.rest (suc n) (omega (arith, e));
    }

pub returns-clause-world : goal.returns-clause-world
unfolding definitions
returns-clause-world c = c.loop.invariant.rest 0 (omega (arith, c.loop-test.false, c.loop.auto.counter-end))
