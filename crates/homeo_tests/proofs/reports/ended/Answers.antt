-- The starting values are within the bounds, so there is one for each object.
use Rattle.std.proofs.lemmas.Result.{IfOk-at_ok}
use Rattle.homeo_syntax.specs.SourceView.{plain_workload}
use Rattle.homeo_history.specs.Key.{definitions as history_definitions}
use Rattle.homeo_report.proofs.CanReport.{can_report}
use Rattle.homeo_tests.proofs.reports.ended.Goals as goal

pub returns : goal.returns
unfolding history_definitions
returns g c = can_report (plain_workload c.args.w.now) _ (IfOk-at_ok _ c.expect-last.ensures c.initial.ensures.within)
