use Rattle.homeo_cluster.specs.Key.{places}
use Rattle.std.proofs.Common.{◌≤◌, length, arith}
use Rattle.homeo_plan.specs.Planned.{sites_of}
use Rattle.homeo_site.proofs.Limits.{few_sites}
use Rattle.homeo_meaning.proofs.FewClients.{clients_few}
use Rattle.homeo_cluster.proofs.frame.Frame.bases.Goals as goal

pub overflow_mul-result : goal.overflow_mul-result
overflow_mul-result g c =
    let w = g.N.ClusterNaming.workload in
    let few : length w.clients ≤ 64 = clients_few w c.accepted.ensures in
    let clients = c.clients.ensures in
    omega (arith, few, clients)

pub overflow_add-result : goal.overflow_add-result
overflow_add-result g c =
    let w = g.N.ClusterNaming.workload in
    let few : length w.clients ≤ 64 = clients_few w c.accepted.ensures in
    let most : sites_of w ≤ 16 = few_sites w c.accepted.ensures in
    let clients = c.clients.ensures in
    let sites = c.sites.ensures in
    omega (arith, few, most, clients, sites)

pub returns : goal.returns
unfolding places
returns g c = let clients = c.clients.ensures in let sites = c.sites.ensures in omega (arith, clients, sites)
