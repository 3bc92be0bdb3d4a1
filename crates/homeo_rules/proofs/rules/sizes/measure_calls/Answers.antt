use Rattle.std.proofs.Common.{◌∙◌, ◌+◌, ap, min, map}
use Rattle.std.proofs.lemmas.List.{take_all}
use Rattle.homeo_syntax.specs.LowView.{plain_lcommand}
use Rattle.homeo_size.specs.declared.measures.Measure.{Measure}
use Rattle.homeo_ground.specs.Sited.{sited}
use Rattle.homeo_rules.specs.inner.Bodies.{bodies_of}
use Rattle.homeo_rules.specs.inner.Sizes.{workload_of}
use Rattle.homeo_rules.proofs.CallsMeasured.{measuring_none, named_at, measuring_step, forms_made}
use Rattle.homeo_rules.proofs.rules.sizes.measure_calls.Goals as goal

pub loop-call-init : goal.loop-call-init
loop-call-init c =
    let w = workload_of c.args.measuring.now in
    record {
      bodies = c.new-bodies.ensures.bodies w;
      so = measuring_none w (bodies_of c.new-bodies.result) c.new-all.result.items c.args.calls.now c.new-bodies.ensures.none c.new-all.ensures.items;
    }

pub measure_after-requires-clause-named : goal.measure_after-requires-clause-named
measure_after-requires-clause-named c = named_at (workload_of c.args.measuring.now) c.args.calls.now c.loop-call.call-index _ c.loop-call-test.true c.requires.named

pub loop-call-preserved : goal.loop-call-preserved
loop-call-preserved c = record {
  bodies = c.in_ok-body.ensures.bodies;
  so =
      measuring_step (workload_of c.args.measuring.now) c.loop-call.total c.capped_sum-total.result (bodies_of c.loop-call.bodies) (bodies_of c.measure_after.new.bodies) c.loop-call.all.items c.push.new.self.items c.args.calls.now c.loop-call.call-index _ c.in_ok-body.body c.loop-call-test.true c.loop-call.invariant.so c.in_ok-body.ensures.told c.in_ok-body.ensures.put (c.capped_sum-total.ensures ∙ ap (λ (m : Measure). min 8000001 (c.loop-call.total + m.size)) c.known.ensures) c.in_ok-push.ensures.items;
}

pub returns-clause-forms : goal.returns-clause-forms
returns-clause-forms c = λ known.
    let so = c.loop-call.invariant.so in
    let same = so.same ∙ ap (map sited) (take_all c.loop-call.call-index c.args.calls.now c.loop-call-test.false) ∙ c.requires.grounds in
    forms_made (workload_of c.args.measuring.now) (map plain_lcommand c.loop-call.bodies.forms.items) (bodies_of c.loop-call.bodies) c.loop-call.invariant.bodies.forms c.loop-call.all.items same (so.put known)
