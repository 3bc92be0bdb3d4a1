use Rattle.homeo_site.proofs.SiteViews.{start_is_site, start_value}
use Rattle.homeo_site.proofs.site.Site.begin.Goals as goal

pub invariant_of-result : goal.invariant_of-result
invariant_of-result c = start_is_site c.start.inside.own c.start.inside.deltas c.start.inside.segment c.start.invariant

pub returns : goal.returns
returns c = start_value c.start.inside.own c.args.start c.start.inside.deltas c.start.inside.segment c.start.invariant c.start.view_is
