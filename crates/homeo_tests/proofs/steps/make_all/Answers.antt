-- The last values are within the bounds, so the history can be reported.
use Rattle.std.proofs.Common.{◌≡◌, ◌∙◌, subst}
use Rattle.std.proofs.lemmas.Result.{IfOk-at_ok}
use Rattle.homeo_syntax.specs.SourceView.{plain_workload}
use Rattle.homeo_syntax.specs.declared.workload.Workload.{Workload}
use Rattle.homeo_meaning.specs.Bounds.{IsWithin}
use Rattle.homeo_meaning.specs.Schema.{schema_of}
use Rattle.homeo_history.specs.HistoryView.{plain_history}
use Rattle.homeo_report.proofs.CanReport.{can_report}
use Rattle.homeo_tests.proofs.steps.make_all.Goals as goal

pub returns : goal.returns
returns g c =
    let work : c.step_all-answers.new.core.work ≡ c.args.c.now.value = c.step_all-answers.ensures ∙ c.core_of-core.ensures.work in
    let history = plain_history c.expect-history.result in
    record {
      reportable =
          can_report (plain_workload c.args.c.now.value) history
          (subst (λ (w : Workload). IsWithin (schema_of (plain_workload w)) history.last) work
          (IfOk-at_ok _ c.expect-history.ensures c.finish.ensures.within));
    }
