use Rattle.std.proofs.Common.{◌≤◌, ◌<◌, length, map, arith}
use Rattle.homeo_history.specs.HistoryView.{plain_answer}
use Rattle.homeo_cluster.specs.Places.{line_count}
use Rattle.homeo_meaning.proofs.FewClients.{clients_few}
use Rattle.homeo_cluster.proofs.LinesInOrder.{clients_before_last}
use Rattle.homeo_cluster.proofs.Begins.{owners_left, less_left, first_pass_is}
use Rattle.homeo_cluster.proofs.frame.Frame.first_pass.Goals as goal

pub overflow_add-client : goal.overflow_add-client
overflow_add-client g c =
    let w = g.N.ClusterNaming.workload in
    let few : length w.clients ≤ 64 = clients_few w c.accepted.ensures in
    let exists = c.requires.exists in
    omega (arith, few, exists)

pub deal-holder-requires-clause-owner : goal.deal-holder-requires-clause-owner
deal-holder-requires-clause-owner g c i l u =
    let w = g.N.ClusterNaming.workload in
    let last : c.args.client < line_count w = clients_before_last w c.args.client c.requires.exists in
    owners_left c.args.client (line_count w) i c.args.rest.now c.requires.rest l (omega (arith, u, last))

pub invariant_of-result : goal.invariant_of-result
invariant_of-result g c =
    let w = g.N.ClusterNaming.workload in
    first_pass_is w c.args.client c.calls.result (line_count w) (map plain_answer c.new.result.items) c.args.rest.now c.deal-holder.result
    (λ j. map plain_answer (c.new.ensures j).items) c.calls.ensures.count c.deal-holder.ensures.new c.requires.exists (clients_before_last w c.args.client c.requires.exists) c.requires.rest

pub returns-clause-rest : goal.returns-clause-rest
returns-clause-rest g c = less_left c.args.client (line_count g.N.ClusterNaming.workload) c.args.rest.now c.deal-holder.new.from c.deal-holder.ensures.from c.requires.rest
