use Rattle.std.proofs.Common.{◌≡◌, ◌∙◌, sym, subst}
use Rattle.homeo_syntax.specs.SourceView.{plain_workload}
use Rattle.homeo_syntax.specs.declared.workload.Workload.{Workload}
use Rattle.homeo_meaning.specs.Bounds.{IsWithin}
use Rattle.homeo_meaning.specs.Schema.{schema_of}
use Rattle.homeo_history.specs.HistoryView.{plain_history}
use Rattle.homeo_report.proofs.CanReport.{can_report}
use Rattle.homeo_commands.proofs.wire.wire_report.Goals as goal

pub report-requires : goal.report-requires
report-requires c =
    let h = plain_history c.in_ok-history.history in
    let same : c.in_ok-try_clone.field-0.value ≡ c.workload.result.now =
    c.in_ok-try_clone.ensures ∙ sym (c.workload.ensures ∙ c.deref.ensures) in
    can_report (plain_workload c.workload.result.now) h
    (subst (λ (v : Workload). IsWithin (schema_of (plain_workload v)) h.last) same c.in_ok-history.ensures.within)
