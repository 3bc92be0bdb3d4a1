-- Which verdict the certificates of a workload's rounds have.
use Rattle.std.specs.Prelude.{◌≡◌, ℕ, ◌≤◌, ◌^◌, List, ℤ, length}
use Rattle.homeo_syntax.specs.Source as s
use Rattle.homeo_syntax.specs.Reads.{Reads}
use Rattle.homeo_meaning.specs.Acceptance.{IsAccepted}
use Rattle.homeo_meaning.specs.Bounds.{IsWithin}
use Rattle.homeo_meaning.specs.Schema.{schema_of}
use Rattle.homeo_plan.specs.Config.{Config, Fits}
use Rattle.homeo_plan.specs.Planned.{sites_of, template_at}
use Rattle.homeo_certificate.specs.declared.verdict.Verdict.{Verdict}
use Rattle.homeo_certificate.specs.declared.verdict.Verdict.TheVariants.{Valid}
use Rattle.homeo_certificate.specs.Certified.{certificate_of}
use Rattle.homeo_certificate.specs.Text.{text_of}
use Rattle.homeo_certificate.specs.Verdict.{verdict_of, IsVerdictOn}

-- the certificate of a round of an accepted workload has no fault
abbrev pub CertifiedHasNoFault : Type 0
CertifiedHasNoFault =
    (w : s.Workload) (base : List ℤ) (config : Config) → IsAccepted w → IsWithin (schema_of w) base →
    Fits (sites_of w) (template_at w base).clauses config → verdict_of (certificate_of w base config) ≡ Valid

-- where a text reads as the workload, and its names can be numbered in 32 bits, no other verdict is true of the certificate's text
abbrev pub CertifiedIsValid : Type 0
CertifiedIsValid =
    (source : List ℕ) (w : s.Workload) (base : List ℤ) (config : Config) → Reads source w → length w.names ≤ 2 ^ 32 → IsAccepted w →
    IsWithin (schema_of w) base → Fits (sites_of w) (template_at w base).clauses config →
    (v : Verdict) → IsVerdictOn (text_of (certificate_of w base config)) v → v ≡ Valid
