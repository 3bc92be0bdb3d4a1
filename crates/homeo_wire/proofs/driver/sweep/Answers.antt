use Rattle.homeo_wire.specs.Key.{definitions}
use Rattle.std.proofs.Common.{◌≡◌, ◌<◌, ◌+◌, suc, refl, sym, ap, subst, ◌∙◌, arith}
use Rattle.homeo_syntax.specs.SourceView.{plain_workload}
use Rattle.homeo_plan.specs.Planned.{sites_of}
use Rattle.homeo_wire.specs.Drive.{all_to, to_sites}
use Rattle.homeo_wire.specs.inner.Stale.{AreStale}
use Rattle.homeo_wire.specs.Nodes.{after}
use Rattle.homeo_wire.proofs.Driving.{site_next}
use Rattle.homeo_wire.proofs.StalePackets.{stale_after}
use Rattle.homeo_wire.proofs.driver.sweep.Goals as goal

pub loop-site-init : goal.loop-site-init
loop-site-init c = record {
  work = refl;
  stale = c.stale-stale.ensures;
  rest = λ n e. let same : n ≡ sites_of (plain_workload c.args.wire.now.work) = omega (arith, e) in
      ap (λ k. after (plain_workload c.args.wire.now.work) (to_sites (plain_workload c.args.wire.now.work) c.args.wire.now.world 0 k) c.args.wire.now.world) same;
}

pub deliver_all-requires-clause-site : goal.deliver_all-requires-clause-site
deliver_all-requires-clause-site c =
    let count : c.site_count-site-end.result ≡ sites_of (plain_workload c.args.wire.now.work) = c.site_count-site-end.ensures.count ∙ ap (λ v. sites_of (plain_workload v)) c.workload.ensures.work in
    subst (λ v. c.loop-site.site < sites_of (plain_workload v)) (sym c.loop-site.invariant.work) (omega (arith, c.loop-site-test.true, count))

pub loop-site-preserved : goal.loop-site-preserved
loop-site-preserved c =
    let w = plain_workload c.args.wire.now.work in
    let x = c.loop-site.wire.world in
    let y = c.deliver_all.new.wire.world in
    let site = c.loop-site.site in
    let same : plain_workload c.loop-site.wire.work ≡ w = ap plain_workload c.loop-site.invariant.work in
    let is : y ≡ after w (all_to x site) x = c.in_ok-deliver_all.ensures.world ∙ ap (λ v. after v (all_to x site) x) same in record {
      work = c.in_ok-deliver_all.ensures.work ∙ c.loop-site.invariant.work;
      stale = subst (λ v. AreStale v c.stale-stale.result) (sym is) (stale_after w (all_to x site) x c.stale-stale.result c.loop-site.invariant.stale);
      rest = λ n e.
          ap (λ k. after w (to_sites w y k n) y) (let h : site + 1 ≡ suc site = omega arith in h) ∙ sym (site_next w x y site n is)
          ∙ c.loop-site.invariant.rest (suc n) (omega (arith, e));
    }

pub returns-clause-world : goal.returns-clause-world
unfolding definitions
returns-clause-world c =
    let count : c.site_count-site-end.result ≡ sites_of (plain_workload c.args.wire.now.work) = c.site_count-site-end.ensures.count ∙ ap (λ v. sites_of (plain_workload v)) c.workload.ensures.work in
    c.loop-site.invariant.rest 0 (omega (arith, c.loop-site-test.false, c.loop-site.auto.site-end, count))
