use Rattle.homeo_site.proofs.BareSites.{start_bare, begun_value}
use Rattle.homeo_site.proofs.bare.BareSite.begin.Goals as goal

pub invariant_of-result : goal.invariant_of-result
invariant_of-result c = start_bare c.start.inside.own c.start.inside.deltas c.start.inside.segment c.start.invariant

pub returns : goal.returns
returns c = begun_value c.start.inside.own c.start.inside.deltas c.start.inside.segment c.args.start c.start.invariant c.start.view_is
