-- What `verify` says of certificates that `certify` made, and what it tells of bytes that it finds valid.
use Rattle.std.proofs.Common.{◌≡◌, ◌∙◌, ℕ, List, [], Some, codes, refl, sym, ap, subst, arith}
use Rattle.homeo_syntax.specs.Source as s
use Rattle.homeo_meaning.specs.Acceptance.{IsAccepted}
use Rattle.homeo_meaning.specs.declared.call.Purpose.TheVariants as purpose
use Rattle.homeo_meaning.specs.Initial.{initial}
use Rattle.homeo_meaning.specs.Verdict.{Accepts}
use Rattle.homeo_meaning.proofs.FaultParts.{for_run}
use Rattle.homeo_meaning.proofs.Sound.{sound}
use Rattle.homeo_plan.specs.Planned.{policy}
use Rattle.homeo_plan.proofs.Policy.{policy_fits}
use Rattle.homeo_reader.proofs.SpelledNames.{well_formed}
use Rattle.homeo_certificate.specs.Verdict.{IsVerdictOn}
use Rattle.homeo_certificate.specs.declared.verdict.Verdict.{Verdict}
use Rattle.homeo_certificate.specs.declared.verdict.Verdict.TheVariants as v
use Rattle.homeo_certified.proofs.CertifiedTexts.{text_names, certified_texts_are_valid}
use Rattle.homeo_certificate.proofs.Soundness.{valid_text_is_sound}
use Rattle.homeo_commands.specs.Certified.{first_certificate, unended, verdict_text}
use Rattle.homeo_commands.proofs.Decided.{told_is_given}
use Rattle.homeo_commands.proofs.Unended.{unended_line}
use Rattle.homeo.specs.Laws.{MadeIsValid, ValidIsSound}

-- a text that is accepted for its treaties is accepted
accepted_for_treaty : (text : List ℕ) (w : s.Workload) → Accepts text purpose.Treaty w → IsAccepted w
accepted_for_treaty text w accepts = record { well_formed = well_formed text w accepts.reads; rules = for_run purpose.Treaty w accepts.sound }

-- a first certificate has no other verdict
first_is_valid : (text : List ℕ) (w : s.Workload) (verdict : Verdict) → Accepts text purpose.Treaty w → IsVerdictOn (first_certificate w) verdict → verdict ≡ v.Valid
first_is_valid text w verdict accepts on =
    let accepted = accepted_for_treaty text w accepts in
    let names = text_names text w accepts.reads in
    certified_texts_are_valid text w (initial w) (policy w (initial w)) accepts.reads (omega (arith, names, accepts.short)) accepted (sound w accepted).starts
    (policy_fits w (initial w) accepted) verdict on

pub made_is_valid : MadeIsValid
made_is_valid text certificate output made verified =
    let line = made.holds in
    let given : certificate ≡ verified.bytes = told_is_given (Some certificate) (Some []) certificate verified.bytes refl verified.read in
    let read : unended verified.bytes ≡ first_certificate made.workload = ap unended (sym given ∙ line.line) ∙ unended_line (first_certificate made.workload) in
    let verdict = verified.holds in
    verdict.line ∙ ap verdict_text (first_is_valid made.text made.workload verdict.verdict made.accepted (subst (λ b. IsVerdictOn b verdict.verdict) read verdict.on_bytes))

-- one verdict's line is that of a valid certificate
one_valid_line : (verdict : Verdict) → verdict_text verdict ≡ codes "valid\n" → verdict ≡ v.Valid
one_valid_line v.Valid same = refl
one_valid_line v.Json same = absurd (cc)
one_valid_line v.Shape same = absurd (cc)
one_valid_line (v.Bounds c) same = absurd (cc)
one_valid_line (v.Size g) same = absurd (cc)
one_valid_line (v.Freeze g d) same = absurd (cc)
one_valid_line (v.Clause g) same = absurd (cc)
one_valid_line (v.Foreign g) same = absurd (cc)

pub valid_is_sound : ValidIsSound
valid_is_sound bytes verified =
    let given : bytes ≡ verified.bytes = told_is_given (Some bytes) (Some []) bytes verified.bytes refl verified.read in
    let line = verified.holds in
    let valid : line.verdict ≡ v.Valid = one_valid_line line.verdict (sym line.line) in
    valid_text_is_sound (unended bytes) (subst (λ (x : Verdict). IsVerdictOn (unended bytes) x) valid (subst (λ b. IsVerdictOn (unended b) line.verdict) (sym given) line.on_bytes))
