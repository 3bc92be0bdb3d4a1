use Rattle.std.proofs.lemmas.Result.{IfOk-weaker}
use Rattle.homeo_history.specs.HistoryView.{plain_history}
use Rattle.homeo_report.proofs.CanReport.{can_report}
use Rattle.homeo_commands.proofs.Gathering.{all_back, full_history}
use Rattle.homeo_commands.proofs.clients.clients_on.Goals as goal

pub finish-requires : goal.finish-requires
finish-requires g c =
    let before = c.in_ok-cluster.passes.items in
    let after = c.in_ok-passes.passes.items in
    record { all = all_back g.N.ClusterNaming.workload before after c.in_ok-cluster.ensures.passes.all c.in_ok-passes.ensures.finished }

pub returns-clause-full : goal.returns-clause-full
returns-clause-full g c =
    let before = c.in_ok-cluster.passes.items in
    let after = c.in_ok-passes.passes.items in
    let begun = c.in_ok-cluster.ensures.passes in
    let ran = c.in_ok-passes.ensures in
    IfOk-weaker c.finish.result _ _
    (λ h made. full_history g.N.ClusterNaming.workload before after (plain_history h) begun ran.finished ran.answers made)
    c.finish.ensures.assembled

pub returns-clause-reportable : goal.returns-clause-reportable
returns-clause-reportable g c =
    IfOk-weaker c.finish.result _ _ (λ h within. can_report g.N.ClusterNaming.workload (plain_history h) within) c.finish.ensures.within
