-- What `certify` makes of a workload, which certificates are too long for it, and what `verify` makes of bytes (this project's rule).
use Rattle.std.specs.Prelude.{◌≡◌, ◌≤◌, ◌<◌, ◌==◌, ℕ, cond, List, [], ◌∷◌, ◌++◌, length, codes}
use Rattle.std.specs.Fmt.{decimal}
use Rattle.homeo_syntax.specs.declared.workload.Refusal.{Refusal}
use Rattle.homeo_syntax.specs.Source as s
use Rattle.homeo_meaning.specs.Initial.{initial}
use Rattle.homeo_plan.specs.Planned.{policy}
use Rattle.homeo_certificate.specs.Certified.{certificate_of}
use Rattle.homeo_certificate.specs.Text.{text_of}
use Rattle.homeo_certificate.specs.Verdict.{IsVerdictOn}
use Rattle.homeo_certificate.specs.declared.verdict.Verdict.{Verdict}
use Rattle.homeo_certificate.specs.declared.verdict.Verdict.TheVariants.{Valid, Json, Shape, Bounds, Size, Freeze, Clause, Foreign}

abbrev pub certificate_limit : ℕ
certificate_limit = 16777216

-- ---- certificates
-- the certificate of the round that begins at the initial database, with the bounds of the policy
abbrev pub first_certificate : s.Workload → List ℕ
first_certificate w = text_of (certificate_of w (initial w) (policy w (initial w)))

-- the certificate, and a newline
pub record IsCertificateLine (w : s.Workload) (output : List ℕ) : Type 0 where
  pub short : length (first_certificate w) ≤ certificate_limit
  pub line : output ≡ first_certificate w ++ codes "\n"

-- a certificate that is too long is refused with E17
pub record IsUncertified (w : s.Workload) (r : Refusal) : Type 0 where
  pub long : certificate_limit < length (first_certificate w)
  pub refusal : r ≡ record { code = 17; offset = certificate_limit }

-- ---- verdicts
-- the bytes, but for a newline at their end
abbrev pub unended : List ℕ → List ℕ
unended [] = []
unended (b ∷ []) = cond (b == 10) [] (b ∷ [])
unended (b ∷ c ∷ bytes) = b ∷ unended (c ∷ bytes)

abbrev pub verdict_text : Verdict → List ℕ
verdict_text Valid = codes "valid\n"
verdict_text Json = codes "invalid json\n"
verdict_text Shape = codes "invalid shape\n"
verdict_text (Bounds c) = codes "invalid bounds " ++ (decimal c ++ codes "\n")
verdict_text (Size g) = codes "invalid size " ++ (decimal g ++ codes "\n")
verdict_text (Freeze g d) = codes "invalid freeze " ++ (decimal g ++ (codes " " ++ (decimal d.object ++ (codes " " ++ (decimal d.site ++ codes "\n")))))
verdict_text (Clause g) = codes "invalid clause " ++ (decimal g ++ codes "\n")
verdict_text (Foreign g) = codes "invalid foreign " ++ (decimal g ++ codes "\n")

-- the verdict on the bytes, but for a newline at their end
pub record IsVerdictLine (bytes output : List ℕ) : Type 0 where
  pub short : length (unended bytes) ≤ certificate_limit
  pub verdict : Verdict
  pub on_bytes : IsVerdictOn (unended bytes) verdict
  pub line : output ≡ verdict_text verdict

-- bytes that are too many are refused with E2
pub record IsUnverified (bytes : List ℕ) (r : Refusal) : Type 0 where
  pub long : certificate_limit < length (unended bytes)
  pub refusal : r ≡ record { code = 2; offset = certificate_limit }
