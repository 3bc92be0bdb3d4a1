use Rattle.std.proofs.Common.{◌≡◌, ◌∙◌, sym, ap, subst, refl, map, length}
use Rattle.homeo_syntax.specs.Source as s
use Rattle.homeo_syntax.specs.SourceView.{plain_workload}
use Rattle.homeo_syntax.specs.WellFormed.{IsWellFormed}
use Rattle.homeo_meaning.specs.Bounds.{IsWithin}
use Rattle.homeo_meaning.specs.Faults.{faults}
use Rattle.homeo_meaning.specs.Schema.{schema_of}
use Rattle.homeo_meaning.specs.declared.call.Purpose.TheVariants as purpose
use Rattle.homeo_history.specs.Follows.{Follows}
use Rattle.homeo_history.specs.HistoryView.{plain_history}
use Rattle.homeo_history.specs.Key.{definitions as history_definitions}
use Rattle.homeo_history.specs.Legal.{IsLegalFrom}
use Rattle.homeo_report.specs.Report.{report}
use Rattle.homeo_order.specs.Order.{scheduled_calls}
use Rattle.homeo_session.proofs.batch.serve_batch.Goals as goal

pub steps_from-requires-clause-well_formed : goal.steps_from-requires-clause-well_formed
steps_from-requires-clause-well_formed c =
    let same : plain_workload c.in_ok-compiled.compiled.value ≡ plain_workload c.args.w = ap plain_workload c.in_ok-compiled.ensures.ok ∙ c.in_ok-compile.ensures in
    subst IsWellFormed (sym same) c.requires.well_formed

pub steps_from-requires-clause-sound : goal.steps_from-requires-clause-sound
steps_from-requires-clause-sound c =
    let same : plain_workload c.in_ok-compiled.compiled.value ≡ plain_workload c.args.w = ap plain_workload c.in_ok-compiled.ensures.ok ∙ c.in_ok-compile.ensures in
    ap (faults purpose.Steps) same ∙ c.requires.sound

pub steps_from-requires-clause-within : goal.steps_from-requires-clause-within
steps_from-requires-clause-within c =
    let same : plain_workload c.in_ok-compiled.compiled.value ≡ plain_workload c.args.w = ap plain_workload c.in_ok-compiled.ensures.ok ∙ c.in_ok-compile.ensures in
    subst (λ (v : s.Workload). IsWithin (schema_of v) c.args.base.items) (sym same) c.requires.within

pub returns-clause-served : goal.returns-clause-served
unfolding history_definitions
returns-clause-served c =
    let w = plain_workload c.args.w in
    let same : plain_workload c.in_ok-compiled.compiled.value ≡ w = ap plain_workload c.in_ok-compiled.ensures.ok ∙ c.in_ok-compile.ensures in
    let told : plain_workload c.workload.result.now ≡ w = ap plain_workload (c.workload.ensures ∙ c.deref.ensures) ∙ same in
    let history = plain_history c.in_ok-history.history in
    record {
      history = history;
      legal = subst (λ (v : s.Workload). IsLegalFrom v c.args.base.items (map (λ client. length client.calls) v.clients) history) same c.in_ok-history.ensures.legal;
      follows = subst (λ (v : s.Workload). Follows v history (scheduled_calls v)) same c.in_ok-history.ensures.follows;
      answer_is = c.in_ok-report.ensures ∙ ap (λ (v : s.Workload). report v history) told;
      after = refl;
    }

pub returns-clause-within : goal.returns-clause-within
unfolding history_definitions
returns-clause-within c =
    let same : plain_workload c.in_ok-compiled.compiled.value ≡ plain_workload c.args.w = ap plain_workload c.in_ok-compiled.ensures.ok ∙ c.in_ok-compile.ensures in
    subst (λ (v : s.Workload). IsWithin (schema_of v) c.in_ok-history.history.last.items) same c.in_ok-history.ensures.within
