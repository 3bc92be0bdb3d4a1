use Rattle.std.proofs.Common.{◌≡◌, map, ℤ, pos, ap, subst, ◌∙◌, arith}
use Rattle.std.specs.List.{range_with_len}
use Rattle.std.proofs.lemmas.Result.{IfOk-weaker}
use Rattle.homeo_meaning.specs.Acceptance.{IsAccepted}
use Rattle.homeo_syntax.specs.Listed.{Listed}
use Rattle.homeo_syntax.specs.SourceView.{plain_workload}
use Rattle.homeo_syntax.specs.declared.workload.Workload.{Workload}
use Rattle.homeo_plan.specs.PlanView.{plain_clause}
use Rattle.homeo_plan.specs.Planned.{sites_of, planned, shares_of}
use Rattle.homeo_plan.specs.Shares.{own_share}
use Rattle.homeo_build.specs.inner.Sharing.{AreOrEven}
use Rattle.homeo_build.proofs.SiteShares.{natural_back, can_of, own_back, shares_more, shares_light, shares_done}
use Rattle.homeo_build.proofs.shares.clause_shares.Goals as goal

pub loop-site-init : goal.loop-site-init
loop-site-init c = ap (λ l. l.items) c.new-shares.ensures

pub own_share-requires : goal.own_share-requires
own_share-requires c =
    let sites = c.site_count-sites.ensures.sites ∙ ap (λ (v : Workload). sites_of (plain_workload v)) c.workload.ensures in
    let within = c.loop-site-test.true in
    omega (arith, sites, within)

pub loop-site-preserved : goal.loop-site-preserved
loop-site-preserved c =
    let w = plain_workload c.args.c.now in
    let accepted = subst (λ (v : Workload). IsAccepted (plain_workload v)) c.workload.ensures c.site_count-sites.ensures.accepted in
    shares_more (own_share (sites_of w) w.weights (planned w) (plain_clause c.args.clause.now)) c.loop-site.shares.items _ _ c.loop-site.site c.loop-site.invariant
    (own_back w (plain_clause c.args.clause.now) c.loop-site.site c.own_share.result accepted c.own_share.ensures) (ap (λ l. l.items) c.in_ok-push.ensures.ok)

pub or_even-requires : goal.or_even-requires
or_even-requires c =
    let accepted = subst (λ (v : Workload). IsAccepted (plain_workload v)) c.workload.ensures c.site_count-sites.ensures.accepted in
    shares_light (plain_workload c.args.c.now) (plain_clause c.args.clause.now) c.loop-site.shares.items c.loop-site.site accepted c.loop-site.invariant

pub returns : goal.returns
returns c =
    let w = plain_workload c.args.c.now in
    let accepted = subst (λ (v : Workload). IsAccepted (plain_workload v)) c.workload.ensures c.site_count-sites.ensures.accepted in
    let sites = c.site_count-sites.ensures.sites ∙ ap (λ (v : Workload). sites_of (plain_workload v)) c.workload.ensures in
    let to_end = c.loop-site.auto.site-end in
    let past = c.loop-site-test.false in
    let all : c.loop-site.site ≡ c.site_count-sites.result = omega (arith, to_end, past) in
    let own = own_share (sites_of w) w.weights (planned w) (plain_clause c.args.clause.now) in
    let items : c.loop-site.shares.items ≡ map pos (map own (range_with_len 0 c.site_count-sites.result)) =
    c.loop-site.invariant ∙ ap (λ n. map pos (map own (range_with_len 0 n))) all in
    let are : (l : Listed ℤ) → AreOrEven c.site_count-sites.result c.loop-site.shares.items l.items → l.items ≡ map pos (shares_of w (plain_clause c.args.clause.now)) =
    λ l or. shares_done w (plain_clause c.args.clause.now) c.site_count-sites.result l.items c.loop-site.shares.items sites items or in
    record {
      shares = IfOk-weaker c.or_even.result _ _ (λ l or. natural_back l (shares_of w (plain_clause c.args.clause.now)) (are l or)) c.or_even.ensures;
      can = IfOk-weaker c.or_even.result _ _ (λ l or. can_of w (plain_clause c.args.clause.now) l.items accepted (are l or)) c.or_even.ensures;
    }
