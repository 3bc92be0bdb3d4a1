use Rattle.std.proofs.Common.{◌≡◌, ◌∙◌, sym, ap, subst}
use Rattle.std.proofs.lemmas.Result.{IfOk-weaker}
use Rattle.homeo_syntax.specs.Source as s
use Rattle.homeo_syntax.specs.SourceView.{plain_workload}
use Rattle.homeo_syntax.specs.WellFormed.{IsWellFormed}
use Rattle.homeo_meaning.specs.declared.call.Purpose.TheVariants.{Steps}
use Rattle.homeo_meaning.specs.Faults.{faults}
use Rattle.homeo_history.specs.Follows.{Follows}
use Rattle.homeo_history.specs.HistoryView.{plain_history}
use Rattle.homeo_history.specs.Legal.{IsFull}
use Rattle.homeo_order.specs.Order.{scheduled_calls}
use Rattle.homeo_report.specs.Report.{report}
use Rattle.homeo_commands.proofs.output.steps_report.Goals as goal

pub steps-requires-clause-well_formed : goal.steps-requires-clause-well_formed
steps-requires-clause-well_formed c =
    let same : plain_workload c.in_ok-compiled.compiled.value ≡ plain_workload c.args.w = ap plain_workload c.in_ok-compiled.ensures.ok ∙ c.in_ok-compile.ensures in
    subst IsWellFormed (sym same) c.requires.well_formed

pub steps-requires-clause-sound : goal.steps-requires-clause-sound
steps-requires-clause-sound c =
    let same : plain_workload c.in_ok-compiled.compiled.value ≡ plain_workload c.args.w = ap plain_workload c.in_ok-compiled.ensures.ok ∙ c.in_ok-compile.ensures in
    ap (faults Steps) same ∙ c.requires.sound

pub returns : goal.returns
returns c =
    let w = plain_workload c.args.w in
    let history = plain_history c.in_ok-history.history in
    let same : plain_workload c.in_ok-compiled.compiled.value ≡ w = ap plain_workload c.in_ok-compiled.ensures.ok ∙ c.in_ok-compile.ensures in
    let told : plain_workload c.workload.result.now ≡ w = ap plain_workload (c.workload.ensures ∙ c.deref.ensures) ∙ same in
    IfOk-weaker c.report.result _ _ (λ bytes is. record {
      made = record {
        history = history;
        full = subst (λ (v : s.Workload). IsFull v history) same c.in_ok-history.ensures.full;
        reported = is ∙ ap (λ (v : s.Workload). report v history) told;
      };
      follows = subst (λ (v : s.Workload). Follows v history (scheduled_calls v)) same c.in_ok-history.ensures.follows;
    }) c.report.ensures
