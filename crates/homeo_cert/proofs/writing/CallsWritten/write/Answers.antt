use Rattle.std.proofs.Common.{length, refl, ap, subst}
use Rattle.std.proofs.lemmas.Result.{on_ok_weaker}
use Rattle.serde_json.specs.Events.{SendsValue}
use Rattle.homeo_syntax.specs.Low.{Command}
use Rattle.homeo_syntax.specs.LowView.{plain_lcommand}
use Rattle.homeo_syntax.specs.SourceView.{plain_workload}
use Rattle.homeo_plan.specs.Key.{definitions as plan_definitions}
use Rattle.homeo_plan.specs.Planned.{sites_of}
use Rattle.homeo_plan.specs.Template.{PlannedCall}
use Rattle.homeo_build.proofs.GroundCalls.{of_call, of_calls, command_is, call_below}
use Rattle.homeo_certificate.specs.Certified.{certified_call}
use Rattle.homeo_certificate.specs.Json.{list_data}
use Rattle.homeo_certificate.specs.Text.{call_data}
use Rattle.homeo_cert.proofs.Lists.{list_more, list_sent}
use Rattle.homeo_cert.proofs.writing.CallsWritten.write.Goals as goal

pub command-requires : goal.command-requires
command-requires g c = call_below (plain_workload c.args.self.now.compiled.now) c.calls-calls.result.now c.loop-i.i c.calls-calls.ensures c.loop-i-test.true

pub loop-i-preserved : goal.loop-i-preserved
unfolding plan_definitions
loop-i-preserved g c =
    let w = plain_workload c.args.self.now.compiled.now in
    let k = sites_of w in
    let calls = c.calls-calls in
    let i = c.loop-i.i in
    let call = c.index-calls-i.result in
    let command = command_is w calls.result.now i call (plain_lcommand c.in-Ok.command) calls.ensures c.loop-i-test.true c.index-calls-i.is c.in-Ok.ensures in
    let old = g.S.Serializer.written c.loop-i.out in
    let new = g.S.Serializer.written c.write_call.new.out in
    let same = ap (λ (d : Command). call_data (record { site = call.site; command = d })) command in
    list_more (of_call w (λ (p : PlannedCall). call_data (certified_call k p))) calls.result.now i call (g.S.Serializer.written c.begin_seq.new.self) old new c.loop-i-test.true
    c.index-calls-i.is (subst (λ d. SendsValue d old new) same c.in_ok-write_call.ensures) c.loop-i.invariant

pub returns : goal.returns
returns g c =
    let w = plain_workload c.args.self.now.compiled.now in
    let calls = c.calls-calls in
    let old = g.S.Serializer.written c.args.out.now in
    let first = g.S.Serializer.written c.begin_seq.new.self in
    let last = g.S.Serializer.written c.loop-i.out in
    let end = g.S.Serializer.written c.end_seq.new.self in
    on_ok_weaker c.end_seq.result
    (λ e. subst (λ l. SendsValue (list_data l) old end) (of_calls w (λ (p : PlannedCall). call_data (certified_call (sites_of w) p)) calls.result.now calls.ensures)
    (list_sent (of_call w (λ (p : PlannedCall). call_data (certified_call (sites_of w) p))) calls.result.now (length calls.result.now) c.loop-i.i old first last end refl
    c.loop-i-test.false c.in_ok-begin_seq.ensures c.loop-i.invariant e))
    c.end_seq.ensures
