use Rattle.std.proofs.lemmas.Result.{IfOk-at_ok}
use Rattle.homeo_history.specs.HistoryView.{plain_history}
use Rattle.homeo_report.proofs.CanReport.{can_report}
use Rattle.homeo_tests.proofs.answers.run_in_order_on.Goals as goal

pub returns : goal.returns
returns g c =
    let within = IfOk-at_ok _ c.expect-history.ensures c.finish.ensures.within in
    record { reportable = can_report g.N.ClusterNaming.workload (plain_history c.expect-history.result) within }
