-- The verdict on a certificate: its first fault.
use Rattle.std.specs.Prelude.{◌≡◌, ℕ, suc, Bool, cond, ◌&&◌, List, [], ◌∷◌, ◌++◌, map, ℤ, pos, int_le}
use Rattle.std.specs.Ordering.{int_eq}
use Rattle.std.specs.List.{list_all}
use Rattle.homeo_plan.specs.Config.{Config, total}
use Rattle.homeo_plan.specs.Template.{Clause}
use Rattle.homeo_certificate.specs.declared.verdict.Verdict.{Verdict}
use Rattle.homeo_certificate.specs.declared.verdict.Verdict.TheVariants as verdict
use Rattle.homeo_certificate.specs.Key.{definitions}
use Rattle.serde_json.specs.Data.{Data}
use Rattle.homeo_certificate.specs.Certificate.{Call, Certificate}
use Rattle.homeo_certificate.specs.Shape.{InShape}
use Rattle.homeo_certificate.specs.Text.{certificate_data, IsJsonOf}
use Rattle.homeo_certificate.specs.declared.fault.Fault.{Fault}
use Rattle.homeo_certificate.specs.declared.fault.Fault.TheVariants.{TooLarge, NotFrozen, NoClause, ForeignWrite}
use Rattle.homeo_certificate.specs.Followed.{call_faults}

-- no bound is negative, and they sum to the slack
abbrev pub fits_slack : Clause → List ℤ → Bool
unfolding definitions
fits_slack c bounds = list_all (int_le (pos 0)) bounds && int_eq (total bounds) c.slack

-- the clauses, numbered from n on, whose bounds don't fit
abbrev pub misfits : ℕ → List Clause → Config → List Verdict
unfolding definitions
misfits n [] bs = []
misfits n (c ∷ cs) [] = []
misfits n (c ∷ cs) (b ∷ bs) = cond (fits_slack c b) (misfits (suc n) cs bs) (verdict.Bounds n ∷ [])

-- a fault of call n
abbrev pub at_call : ℕ → Fault → Verdict
unfolding definitions
at_call n TooLarge = verdict.Size n
at_call n (NotFrozen d) = verdict.Freeze n d
at_call n NoClause = verdict.Clause n
at_call n ForeignWrite = verdict.Foreign n

-- the calls' faults, numbered from n on
abbrev pub faults_from : ℕ → Certificate → List Call → List Verdict
unfolding definitions
faults_from n c [] = []
faults_from n c (g ∷ gs) = map (at_call n) (call_faults c g) ++ faults_from (suc n) c gs

-- the first of verdicts
abbrev pub first_of_all : List Verdict → Verdict
unfolding definitions
first_of_all [] = verdict.Valid
first_of_all (v ∷ vs) = v

-- what is said of a certificate: its first fault, that of a clause's bounds before that of a call
abbrev pub verdict_of : Certificate → Verdict
unfolding definitions
verdict_of c = first_of_all (misfits 0 c.clauses c.bounds ++ faults_from 0 c c.calls)

-- ---- the verdict on bytes
-- a certificate in shape that the bytes are, and its verdict
pub record IsOfCertificate (bytes : List ℕ) (v : Verdict) : Type 0 where
  pub certificate : Certificate
  pub shape : InShape certificate
  pub json : IsJsonOf bytes (certificate_data certificate)
  pub verdict : v ≡ verdict_of certificate

-- the bytes are JSON, and of no certificate in shape
pub record HasNoCertificate (bytes : List ℕ) : Type 0 where
  pub value : Data
  pub json : IsJsonOf bytes value
  pub none : (c : Certificate) → InShape c → certificate_data c ≡ value → ⊥

-- what is said of bytes
abbrev pub IsVerdictOn : List ℕ → Verdict → Type 0
unfolding definitions
IsVerdictOn bytes verdict.Json = (d : Data) → IsJsonOf bytes d → ⊥
IsVerdictOn bytes verdict.Shape = HasNoCertificate bytes
IsVerdictOn bytes v = IsOfCertificate bytes v
