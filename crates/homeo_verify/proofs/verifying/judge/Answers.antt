-- A clause that doesn't fit, or else the calls.
use Rattle.std.proofs.Common.{map, sym, ap, ap₂, ◌∙◌}
use Rattle.std.proofs.lemmas.Result.{IfOk-weaker}
use Rattle.std.proofs.lemmas.Option.{MatchOption-at_some, MatchOption-at_none}
use Rattle.homeo_plan.specs.PlanView.{plain_clause}
use Rattle.homeo_certificate.specs.Key.{definitions}
use Rattle.homeo_certificate.specs.Verdict.{misfits, faults_from, first_of_all}
use Rattle.homeo_cert_reader.specs.CertificateView.{plain_certificate}
use Rattle.homeo_cert_reader.proofs.ReadLists.{row}
use Rattle.homeo_verify.proofs.Verdicts.{first_of_some, first_of_none}
use Rattle.homeo_verify.proofs.verifying.judge.Goals as goal

pub returns-in-Some : goal.returns-in-Some
unfolding definitions
returns-in-Some c =
    let d = plain_certificate c.args.c.now in
    let same = ap₂ (λ x y. misfits 0 (map plain_clause x) (map row y)) c.as_slice.ensures.value c.as_slice-2.ensures.value in
    sym (first_of_some (misfits 0 d.clauses d.bounds) (faults_from 0 d d.calls) c.in-Some.clause
    (ap first_of_all (sym same) ∙ MatchOption-at_some _ _ c.in-Some.clause c.in-Some.is c.in_ok-clause.ensures))

pub returns-in-None : goal.returns-in-None
unfolding definitions
returns-in-None c =
    let d = plain_certificate c.args.c.now in
    let same = ap₂ (λ x y. misfits 0 (map plain_clause x) (map row y)) c.as_slice.ensures.value c.as_slice-2.ensures.value in
    IfOk-weaker c.judge_calls.result _ _
    (λ v h. h ∙ sym (first_of_none (misfits 0 d.clauses d.bounds) (faults_from 0 d d.calls) (sym same ∙ MatchOption-at_none _ _ c.in-None.is c.in_ok-clause.ensures)))
    c.judge_calls.ensures
