-- The calls so far are sent.
use Rattle.std.proofs.Common.{drop}
use Rattle.homeo_syntax.specs.SourceView.{plain_workload}
use Rattle.homeo_plan.specs.Planned.{sites_of}
use Rattle.homeo_certificate.specs.Certified.{certified_call}
use Rattle.homeo_certificate.specs.Text.{call_data}
use Rattle.homeo_build.proofs.GroundCalls.{of_call}
use Rattle.homeo_cert.proofs.Lists.{SendsUpTo}
use Rattle.homeo_cert.proofs.writing.CallsWritten.write.Given as goal

abbrev pub invariant-loop-i : goal.invariant-loop-i
invariant-loop-i g l =
    let w = plain_workload l.self.compiled.now in
    SendsUpTo (of_call w (λ p. call_data (certified_call (sites_of w) p))) l.calls (drop l.i l.calls)
    (g.S.Serializer.written l.initial.out) (g.S.Serializer.written l.out)
