use Rattle.std.proofs.Common.{rules}
use Rattle.homeo_history.specs.Legal.{IsClientAt}
use Rattle.homeo_assembly.proofs.ClientsAtSites.{client_below}
use Rattle.homeo_cluster.proofs.frame.Frame.home.Goals as goal

pub returns-clause-bound : goal.returns-clause-bound
returns-clause-bound g c =
    let w = g.N.ClusterNaming.workload in
    let at : IsClientAt w c.site_of.result c.args.client = search rules in
    client_below w c.site_of.result c.args.client c.accepted.ensures at
