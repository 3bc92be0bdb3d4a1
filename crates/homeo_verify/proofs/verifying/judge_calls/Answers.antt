-- The next call has a fault, or not.
use Rattle.std.proofs.Common.{map, ap, ◌∙◌}
use Rattle.homeo_plan.specs.PlanView.{plain_clause}
use Rattle.homeo_certificate.specs.Verdict.{faults_from, first_of_all}
use Rattle.homeo_cert_reader.specs.CertificateView.{plain_call, plain_certificate}
use Rattle.homeo_verify.proofs.Verdicts.{call_stops, call_goes_on, calls_end}
use Rattle.homeo_verify.proofs.verifying.judge_calls.Goals as goal

pub follow_call-requires : goal.follow_call-requires
follow_call-requires c = c.in_ok-table.ensures ∙ ap (map plain_clause) c.as_slice.ensures.value

pub returns-in-Err-Fault : goal.returns-in-Err-Fault
returns-in-Err-Fault c =
    let d = plain_certificate c.args.c.now in
    let stops = rw c.in-Err-Fault.field-0-is at c.in-Err-Fault.ensures in
    call_stops d c.deref-call-items.result.now c.loop-call.call-index c.loop-call.number c.call-item.result c.loop-call-test.true c.call-item.is
    c.loop-call.invariant c.in-Err-Fault.fault c.of_call.result stops (rw c.in-Err-Fault.field-0-is at c.of_call.ensures)
    ∙ ap (λ l. first_of_all (faults_from 0 d (map plain_call l))) c.deref-call-items.ensures.value

pub loop-call-preserved : goal.loop-call-preserved
loop-call-preserved c =
    call_goes_on (plain_certificate c.args.c.now) c.deref-call-items.result.now c.loop-call.call-index c.loop-call.number c.call-item.result c.loop-call-test.true c.call-item.is
    c.loop-call.invariant c.in_ok-number.number c.in_ok-number.ensures c.in-Ok.ensures

pub returns : goal.returns
returns c =
    let d = plain_certificate c.args.c.now in
    calls_end d c.deref-call-items.result.now c.loop-call.call-index c.loop-call.number c.loop-call-test.false c.loop-call.invariant
    ∙ ap (λ l. first_of_all (faults_from 0 d (map plain_call l))) c.deref-call-items.ensures.value
