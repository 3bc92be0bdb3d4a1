-- What the site keeps of the round is the same.
use Rattle.std.proofs.Common.{sym, ap, ◌∙◌, subst}
use Rattle.homeo_syntax.specs.SourceView.{plain_workload}
use Rattle.homeo_history.specs.Legal.{IsCallAt}
use Rattle.homeo_site.specs.BareView.{BareValue}
use Rattle.homeo_site.specs.SiteView.{StartValue, with_deltas}
use Rattle.homeo_site.specs.inner.Bare.{IsBare}
use Rattle.homeo_site.proofs.bare.BareSite.prepare.Goals as goal

pub prepare-requires : goal.prepare-requires
prepare-requires c =
    subst (λ (v : BareValue). IsCallAt (plain_workload v.work) v.state.number c.args.call) (sym c.self.view_is) c.requires

pub invariant_of-self : goal.invariant_of-self
invariant_of-self c = subst (λ (v : StartValue). IsBare v c.self.inside.deltas) (sym c.prepare.ensures) c.self.invariant

pub returns : goal.returns
returns c =
    ap (λ (v : StartValue). record { work = v.work; state = with_deltas v c.self.inside.deltas }) c.prepare.ensures ∙ c.self.view_is
