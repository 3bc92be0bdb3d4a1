use Rattle.std.proofs.Common.{◌≡◌, ◌∙◌, Some, None, sym, ap, rules}
use Rattle.homeo_syntax.specs.SourceView.{plain_workload}
use Rattle.homeo_syntax.specs.declared.workload.Refusal.{Refusal}
use Rattle.homeo_meaning.specs.Faults.{faults}
use Rattle.homeo_rules.specs.inner.Deciding.{keep_all}
use Rattle.homeo_meaning.proofs.FaultParts.{for_run}
use Rattle.homeo_rules.proofs.OneDecides.{none_left, refused-by}
use Rattle.homeo_rules.proofs.acceptance.accept.Goals as goal

pub with_findings-requires-clause-accepted : goal.with_findings-requires-clause-accepted
with_findings-requires-clause-accepted c =
    let e : keep_all None (faults c.args.purpose (plain_workload c.args.w)) ≡ None = search rules in
    record { well_formed = c.requires; rules = for_run c.args.purpose (plain_workload c.args.w) (none_left (faults c.args.purpose (plain_workload c.args.w)) e) }

pub returns-in-Ok-decided-clause-accepted : goal.returns-in-Ok-decided-clause-accepted
returns-in-Ok-decided-clause-accepted c =
    let e : keep_all None (faults c.args.purpose (plain_workload c.args.w)) ≡ None = search rules in
    none_left (faults c.args.purpose (plain_workload c.args.w)) e

pub returns-in-Err-clause-refused : goal.returns-in-Err-clause-refused
returns-in-Err-clause-refused c = λ r h.
    let e : keep_all None (faults c.args.purpose (plain_workload c.args.w)) ≡ Some c.in-Err.fault = search rules in
    let same : record { code = c.code.result; offset = c.in-Err.fault.offset } ≡ r = cc in
    refused-by c.args.purpose (plain_workload c.args.w) c.in-Err.fault r e (sym (ap (λ (x : Refusal). x.code) same) ∙ c.code.ensures) (sym (ap (λ (x : Refusal). x.offset) same))
