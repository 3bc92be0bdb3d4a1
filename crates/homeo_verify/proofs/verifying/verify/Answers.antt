-- What was parsed, and what was read.
use Rattle.std.proofs.Common.{sym, subst}
use Rattle.std.proofs.lemmas.Result.{IfOk-weaker}
use Rattle.std.proofs.lemmas.Option.{MatchOption-at_some, MatchOption-at_none}
use Rattle.serde_json.specs.View.{view}
use Rattle.homeo_certificate.specs.Key.{definitions}
use Rattle.homeo_certificate.specs.Shape.{InShape}
use Rattle.homeo_certificate.specs.Text.{certificate_data, IsJsonOf}
use Rattle.homeo_cert_reader.specs.CertificateView.{plain_certificate}
use Rattle.homeo_cert_reader.proofs.ReadLists.{read_some, read_none}
use Rattle.homeo_verify.proofs.Verdicts.{verdict_on}
use Rattle.homeo_verify.proofs.verifying.verify.Goals as goal

pub returns-in_default : goal.returns-in_default
unfolding definitions
returns-in_default c = MatchOption-at_none _ _ c.in_default.is c.in_ok-value.ensures

pub returns-in-Some-read : goal.returns-in-Some-read
returns-in-Some-read c =
    let bytes = c.args.bytes.now in
    let json = MatchOption-at_some _ (λ v. IsJsonOf bytes (view v)) c.in-Some.value c.in-Some.is c.in_ok-value.ensures in
    let got = read_some InShape certificate_data (view c.in-Some.value) plain_certificate c.in_ok-read.read c.in-Some-read.certificate c.in-Some-read.is c.in_ok-read.ensures in
    IfOk-weaker c.judge.result _ _
    (λ v h. verdict_on bytes (plain_certificate c.in-Some-read.certificate) v got.0 (subst (IsJsonOf bytes) (sym got.1) json) h) c.judge.ensures

pub returns-in-None : goal.returns-in-None
unfolding definitions
returns-in-None c = record {
  value = view c.in-Some.value;
  json = MatchOption-at_some _ (λ v. IsJsonOf c.args.bytes.now (view v)) c.in-Some.value c.in-Some.is c.in_ok-value.ensures;
  none = read_none InShape certificate_data (view c.in-Some.value) plain_certificate c.in_ok-read.read c.in-None.is c.in_ok-read.ensures;
}
