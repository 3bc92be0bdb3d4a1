use Rattle.homeo_core.proofs.GatheredSites.{states_more}
use Rattle.homeo_core.specs.CoreView.{begun_sites}
use Rattle.homeo_site.specs.SiteView.{SiteValue, StartValue}
use Rattle.homeo_site.specs.SiteState.{begun}
use Rattle.std.proofs.lemmas.List.Elements.{All-push}
use Rattle.std.proofs.Common.{sym, ap, subst, ◌≡◌, suc, ◌+◌, [], ◌∷◌, ◌++◌, ◌∙◌, arith}
use Rattle.homeo_core.specs.Key.{definitions}
use Rattle.homeo_core.specs.SiteLists.{states, AreOf}
use Rattle.homeo_core.proofs.CoreStarts.{none_of, begun_more}
use Rattle.homeo_core.proofs.steps.begin_sites.Goals as goal

pub loop-site-init : goal.loop-site-init
unfolding definitions
loop-site-init c = record {
  begun = ap states c.new-sites.ensures.items;
  of = subst (AreOf c.args.c.now.value) (sym c.new-sites.ensures.items) (none_of c.args.c.now.value);
}

pub loop-site-preserved : goal.loop-site-preserved
unfolding definitions
loop-site-preserved c =
    let w = c.args.c.now.value in
    let base = c.args.plan.now.value.base.items in
    let site = c.loop-site.site in
    let before = c.loop-site.sites.items in
    let v : SiteValue = c.begin.result in
    let more : c.push.new.self.items ≡ before ++ v ∷ [] = c.in_ok-push.ensures.items in
    let next : suc site ≡ site + 1 = omega arith in
    let state : v.state ≡ begun site 0 base = ap (λ (x : SiteValue). x.state) c.begin.ensures ∙ ap (λ (s : StartValue). begun s.number s.round s.base) c.in_ok-start.ensures in
    let work : v.work ≡ w = ap (λ (x : SiteValue). x.work) c.begin.ensures ∙ ap (λ (s : StartValue). s.work) c.in_ok-start.ensures in record {
      begun =
          ap states more ∙ states_more before v ∙ (λ j. c.loop-site.invariant.begun j ++ state j ∷ []) ∙ sym (begun_more site base)
          ∙ ap (λ n. begun_sites n base) next;
      of = subst (AreOf w) (sym more) (All-push (λ (s : SiteValue). s.work ≡ w) before v c.loop-site.invariant.of work);
    }
