-- What verdicts tell.
use Rattle.std.specs.Prelude.{◌≡◌, ℕ, List}
use Rattle.homeo_certificate.specs.declared.verdict.Verdict.{Verdict}
use Rattle.homeo_certificate.specs.declared.verdict.Verdict.TheVariants.{Valid}
use Rattle.homeo_certificate.specs.Certificate.{Certificate}
use Rattle.homeo_certificate.specs.Shape.{InShape}
use Rattle.homeo_certificate.specs.Sound.{IsSound}
use Rattle.homeo_certificate.specs.Text.{certificate_data, text_of, IsJsonOf}
use Rattle.homeo_certificate.specs.Verdict.{verdict_of, IsVerdictOn}

-- a certificate in shape without faults is sound
abbrev pub ValidIsSound : Type 0
ValidIsSound = (c : Certificate) → InShape c → verdict_of c ≡ Valid → IsSound c

-- the bytes are a certificate that is sound
pub record IsSoundText (bytes : List ℕ) : Type 0 where
  pub certificate : Certificate
  pub shape : InShape certificate
  pub json : IsJsonOf bytes (certificate_data certificate)
  pub sound : IsSound certificate

abbrev pub ValidTextIsSound : Type 0
ValidTextIsSound = (bytes : List ℕ) → IsVerdictOn bytes Valid → IsSoundText bytes

abbrev pub TextReadsBack : Type 0
TextReadsBack = (c : Certificate) → InShape c → IsJsonOf (text_of c) (certificate_data c)

-- a JSON value is that of one certificate in shape
abbrev pub OneCertificate : Type 0
OneCertificate = (c d : Certificate) → InShape c → InShape d → certificate_data c ≡ certificate_data d → c ≡ d

abbrev pub OneVerdict : Type 0
OneVerdict = (bytes : List ℕ) (v w : Verdict) → IsVerdictOn bytes v → IsVerdictOn bytes w → v ≡ w
