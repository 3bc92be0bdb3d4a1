-- What the site keeps of the round is the same.
use Rattle.std.proofs.Common.{refl, sym, ap, ◌∙◌, subst}
use Rattle.homeo_site.specs.SiteView.{StartValue}
use Rattle.homeo_site.specs.Standing.{IsSite}
use Rattle.homeo_site.proofs.SiteAttempts.{call_here}
use Rattle.homeo_site.proofs.SiteViews.{value_in}
use Rattle.homeo_site.proofs.site.Site.prepare.Goals as goal

pub prepare-requires : goal.prepare-requires
prepare-requires c =
    call_here c.self.inside.own c.self.inside.deltas c.self.inside.segment c.args.self.now c.self.view_is _ refl c.args.call c.requires

pub invariant_of-self : goal.invariant_of-self
invariant_of-self c =
    subst (λ (v : StartValue). IsSite v c.self.inside.deltas c.self.inside.segment) (sym c.prepare.ensures) c.self.invariant

pub returns : goal.returns
returns c = ap (λ (v : StartValue). value_in v c.self.inside.deltas c.self.inside.segment) c.prepare.ensures ∙ c.self.view_is
