use Rattle.homeo_site.specs.SiteView.{StartValue}
use Rattle.homeo_core.specs.Key.{definitions}
use Rattle.std.proofs.Common.{sym, ap, subst, map, ◌≡◌, suc, ◌+◌, Some, [], ◌∷◌, ◌++◌, true, length, replicate, ◌∙◌, arith}
use Rattle.homeo_core.specs.Starts.{AreStarts, waits, start_after}
use Rattle.homeo_core.proofs.StartsOfSites.{no_starts, starts_more, waiting_more, waiting_count}
use Rattle.homeo_core.proofs.prepared.starts_after.Goals as goal

pub loop-site-init : goal.loop-site-init
loop-site-init c =
    let w = c.args.c.now.value in
    let base = c.args.plan.now.value.base.items in record {
      starts = subst (AreStarts w c.args.round base) (sym c.in_ok-starts.ensures.items) (no_starts w c.args.round base);
      waiting = ap (map waits) c.in_ok-starts.ensures.items;
    }

pub loop-site-preserved : goal.loop-site-preserved
unfolding definitions
loop-site-preserved c =
    let w = c.args.c.now.value in
    let base = c.args.plan.now.value.base.items in
    let site = c.loop-site.site in
    let before = c.loop-site.starts.items in
    let s : StartValue = c.in_ok-start.start in
    let more : c.push.new.self.items ≡ before ++ Some s ∷ [] = c.in_ok-push.ensures.items in
    let count : length before ≡ site = waiting_count before site c.loop-site.invariant.waiting in
    let round : c.args.round + 1 ≡ suc c.args.round = omega arith in
    let next : suc site ≡ site + 1 = omega arith in
    let is : s ≡ start_after w c.args.round base (length before) = c.in_ok-start.ensures ∙ (λ j. record { work = w; number = sym count j; round = round j; base = base }) in record {
      starts = subst (AreStarts w c.args.round base) (sym more) (starts_more w c.args.round base before s c.loop-site.invariant.starts is);
      waiting = ap (map waits) more ∙ waiting_more before s site c.loop-site.invariant.waiting ∙ ap (λ n. replicate n true) next;
    }
