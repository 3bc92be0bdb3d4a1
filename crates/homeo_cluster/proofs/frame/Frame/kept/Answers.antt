use Rattle.homeo_cluster.specs.Key.{places}
use Rattle.std.proofs.Common.{◌+◌, ap, arith}
use Rattle.homeo_meaning.proofs.FewClients.{clients_few}
use Rattle.homeo_cluster.proofs.frame.Frame.kept.Goals as goal

pub overflow_add-result : goal.overflow_add-result
overflow_add-result g c =
    let few = clients_few g.N.ClusterNaming.workload c.accepted.ensures in omega (arith, few, c.clients.ensures, c.requires.exists)

pub returns : goal.returns
unfolding places
returns g c = ap (λ n. n + c.args.client) c.clients.ensures
