use Rattle.homeo_cluster.specs.Key.{places}
use Rattle.std.proofs.Common.{◌+◌, ◌<◌, ℕ, ap, sym, ◌∙◌, arith}
use Rattle.homeo_syntax.specs.Source as s
use Rattle.homeo_meaning.specs.Acceptance.{IsAccepted}
use Rattle.homeo_history.specs.Legal.{IsClientAt}
use Rattle.homeo_history.proofs.Exists.{has_site}
use Rattle.homeo_site.proofs.Limits.{few_sites}
use Rattle.homeo_meaning.proofs.FewClients.{clients_few}
use Rattle.homeo_assembly.proofs.ClientsAtSites.{client_below}
use Rattle.homeo_cluster.specs.Places.{shut_line, at_line, bases_line}
use Rattle.homeo_cluster.proofs.LinesInOrder.{among, at_before_bases, shut_after_done}
use Rattle.homeo_cluster.proofs.frame.Frame.shut.Goals as goal

-- the lines are few
below_all : (w : s.Workload) (site client : ℕ) → IsAccepted w → IsClientAt w site client → shut_line w client < 1000
unfolding places
below_all w site client accepted at =
    let own : shut_line w client < at_line w site = (among w site client at).last in
    let last : at_line w site < bases_line w = at_before_bases w site (client_below w site client accepted at) in
    omega (arith, own, last, clients_few w accepted, few_sites w accepted)

pub overflow_add-result : goal.overflow_add-result
overflow_add-result g c =
    let w = g.N.ClusterNaming.workload in
    let home = has_site w c.args.client c.requires.exists in
    let few = below_all w home.0 c.args.client c.accepted.ensures home.1 in
    omega (arith, few, shut_after_done w c.args.client, c.done.ensures)

pub returns : goal.returns
returns g c = ap (λ n. n + 1) c.done.ensures ∙ sym (shut_after_done g.N.ClusterNaming.workload c.args.client)
