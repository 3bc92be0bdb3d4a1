-- Bytes have at most one verdict.
use Rattle.homeo_certificate.specs.Key.{definitions}
use Rattle.std.proofs.Common.{◌≡◌, ℕ, List, Some, refl, sym, ap, ◌∙◌, ◌⊎◌, inl, inr}
use Rattle.serde_json.specs.Data.{Data}
use Rattle.homeo_certificate.specs.declared.verdict.Verdict.{Verdict}
use Rattle.homeo_certificate.specs.declared.verdict.Verdict.TheVariants as verdict
use Rattle.homeo_certificate.specs.Text.{certificate_data, IsJsonOf}
use Rattle.homeo_certificate.specs.Verdict.{verdict_of, IsOfCertificate, HasNoCertificate, IsVerdictOn}
use Rattle.homeo_certificate.proofs.OneCertificate.{one_certificate}

record NoJson (bytes : List ℕ) (v : Verdict) : Type 0 where
  pub is : v ≡ verdict.Json
  pub none : (d : Data) → IsJsonOf bytes d → ⊥

record NoShape (bytes : List ℕ) (v : Verdict) : Type 0 where
  pub is : v ≡ verdict.Shape
  pub no : HasNoCertificate bytes

abbrev Cases : List ℕ → Verdict → Type 0
Cases bytes v = NoJson bytes v ⊎ (NoShape bytes v ⊎ IsOfCertificate bytes v)

cases : (bytes : List ℕ) (v : Verdict) → IsVerdictOn bytes v → Cases bytes v
unfolding definitions
cases bytes verdict.Valid h = inr (inr h)
cases bytes verdict.Json h = inl (record { is = refl; none = h })
cases bytes verdict.Shape h = inr (inl (record { is = refl; no = h }))
cases bytes (verdict.Bounds n) h = inr (inr h)
cases bytes (verdict.Size n) h = inr (inr h)
cases bytes (verdict.Freeze n d) h = inr (inr h)
cases bytes (verdict.Clause n) h = inr (inr h)
cases bytes (verdict.Foreign n) h = inr (inr h)

one_data : (bytes : List ℕ) (d e : Data) → IsJsonOf bytes d → IsJsonOf bytes e → d ≡ e
one_data bytes d e h k = let p : Some d ≡ Some e = sym h.reads ∙ k.reads in cc

both : (bytes : List ℕ) (v w : Verdict) → IsOfCertificate bytes v → IsOfCertificate bytes w → v ≡ w
both bytes v w h k =
    let same = one_certificate h.certificate k.certificate h.shape k.shape (one_data bytes _ _ h.json k.json) in
    h.verdict ∙ ap verdict_of same ∙ sym k.verdict

no_and_some : (bytes : List ℕ) (v w : Verdict) → NoShape bytes v → IsOfCertificate bytes w → ⊥
no_and_some bytes v w h k = h.no.none k.certificate k.shape (one_data bytes _ _ k.json h.no.json)

pub one_verdict : (bytes : List ℕ) (v w : Verdict) → IsVerdictOn bytes v → IsVerdictOn bytes w → v ≡ w
one_verdict bytes v w h k = go (cases bytes v h) (cases bytes w k)
  where
    go : Cases bytes v → Cases bytes w → v ≡ w
    go (inl a) (inl b) = a.is ∙ sym b.is
    go (inl a) (inr (inl b)) = absurd (a.none b.no.value b.no.json)
    go (inl a) (inr (inr b)) = absurd (a.none (certificate_data b.certificate) b.json)
    go (inr (inl a)) (inl b) = absurd (b.none a.no.value a.no.json)
    go (inr (inl a)) (inr (inl b)) = a.is ∙ sym b.is
    go (inr (inl a)) (inr (inr b)) = absurd (no_and_some bytes v w a b)
    go (inr (inr a)) (inl b) = absurd (b.none (certificate_data a.certificate) a.json)
    go (inr (inr a)) (inr (inl b)) = absurd (no_and_some bytes w v b a)
    go (inr (inr a)) (inr (inr b)) = both bytes v w a b
