-- The site has the parts of the start.
use Rattle.std.proofs.Common.{sym, ap, subst, ◌∙◌}
use Rattle.homeo_site.specs.SiteView.{SiteValue}
use Rattle.homeo_site.specs.Standing.{IsStart, IsSite}
use Rattle.homeo_site.proofs.SiteViews.{value_in, start_is_site, start_value}
use Rattle.homeo_site.proofs.site.Site.renew.Goals as goal

pub invariant_of-self : goal.invariant_of-self
invariant_of-self c =
    let start = subst (IsStart c.start.inside.own c.start.inside.deltas) (sym c.renew_segment.ensures.own) c.start.invariant in
    subst (λ x. IsSite c.start.inside.own x c.renew_segment.new.own) (sym c.renew.ensures)
    (start_is_site c.start.inside.own c.start.inside.deltas _ start)

pub returns-clause-state : goal.returns-clause-state
returns-clause-state c =
    let start = subst (IsStart c.start.inside.own c.start.inside.deltas) (sym c.renew_segment.ensures.own) c.start.invariant in
    ap (λ x. value_in c.start.inside.own x c.renew_segment.new.own) c.renew.ensures
    ∙ start_value c.start.inside.own c.args.start c.start.inside.deltas _ start c.start.view_is

pub returns-clause-segment : goal.returns-clause-segment
returns-clause-segment c = c.renew_segment.ensures.segment ∙ ap (λ (v : SiteValue). v.state.segment) c.self.view_is
