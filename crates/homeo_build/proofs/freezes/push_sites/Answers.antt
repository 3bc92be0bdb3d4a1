-- One site more.
use Rattle.std.proofs.Common.{ap, sym, ◌∙◌}
use Rattle.homeo_build.proofs.FrozenSites.{sites_begin, sites_next, sites_skip, sites_end}
use Rattle.homeo_build.proofs.freezes.push_sites.Goals as goal
use Rattle.homeo_build.proofs.freezes.push_sites.Goals.{then-is_at+in_ok-push, else-is_at}

pub loop-site-init : goal.loop-site-init
loop-site-init c = sites_begin c.args.object c.args.frozen c.args.sites c.args.deltas.now.items

pub loop-site-preserved : goal.loop-site-preserved
loop-site-preserved c =
    let x = c.args.object in
    let f = c.args.frozen in
    let k = c.args.sites in
    let j = c.loop-site.site in
    let out = c.loop-site.deltas.items in
    elim c.if-is_at.branch [ then-is_at+in_ok-push w ↦ sites_next x f k out j _ c.loop-site-test.true (sym w.if-is_at.ensures) (ap (λ v. v.items) w.deltas-is ∙ w.in_ok-push.ensures.items) ∙ c.loop-site.invariant | else-is_at w ↦ sites_skip x f k out j _ c.loop-site-test.true (sym w.if-is_at.ensures) (ap (λ v. v.items) w.deltas-is) ∙ c.loop-site.invariant ]

pub returns : goal.returns
returns c = sites_end c.args.object c.args.frozen c.args.sites c.loop-site.deltas.items c.loop-site.site c.loop-site-test.false ∙ c.loop-site.invariant
