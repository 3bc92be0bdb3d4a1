use Rattle.std.proofs.Common.{sym, ap, subst, ◌∙◌}
use Rattle.homeo_site.specs.inner.Bare.{IsBare}
use Rattle.homeo_site.proofs.BareSites.{in_value, start_bare, begun_value}
use Rattle.homeo_site.proofs.bare.BareSite.renew.Goals as goal

pub invariant_of-self : goal.invariant_of-self
invariant_of-self c =
    subst (IsBare c.start.inside.own) (sym c.renew.ensures)
    (start_bare c.start.inside.own c.start.inside.deltas c.start.inside.segment c.start.invariant)

pub returns : goal.returns
returns c =
    ap (in_value c.start.inside.own) c.renew.ensures
    ∙ begun_value c.start.inside.own c.start.inside.deltas c.start.inside.segment c.args.start c.start.invariant c.start.view_is
