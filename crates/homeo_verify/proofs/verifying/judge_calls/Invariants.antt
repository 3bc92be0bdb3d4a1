-- The calls so far have no fault.
use Rattle.homeo_cert_reader.specs.CertificateView.{plain_certificate}
use Rattle.homeo_verify.proofs.Verdicts.{CallsSoFar}
use Rattle.homeo_verify.proofs.verifying.judge_calls.Given as goal

abbrev pub invariant-loop-call : goal.invariant-loop-call
invariant-loop-call l = CallsSoFar (plain_certificate l.c) l.call-items l.call-index l.number
