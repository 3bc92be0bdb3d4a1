use Rattle.homeo_assembly.proofs.SiteEvents.{site_start}
use Rattle.homeo_cluster.proofs.Begins.{first_cell_is}
use Rattle.homeo_cluster.proofs.frame.Frame.first_site.Goals as goal

pub invariant_of-result : goal.invariant_of-result
invariant_of-result g c =
    first_cell_is site_start g.N.ClusterNaming.workload c.self.inside.compiled.value c.args.site c.args.plan.now.value.base.items c.in_ok-start.start c.begin.result c.deal_site-holder.result
    c.accepted.ensures c.self.invariant.named c.requires.site c.begin.ensures c.in_ok-start.ensures c.requires.base c.deal_site-holder.ensures.dealt
