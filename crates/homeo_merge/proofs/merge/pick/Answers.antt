-- Each number picks the next entry of its site.
use Rattle.std.proofs.Common.{◌+◌, ◌≤◌, length, map, get_or, ap, ◌∙◌, arith}
use Rattle.std.proofs.lemmas.List.{length-replicate}
use Rattle.homeo_history.specs.Key.{definitions}
use Rattle.homeo_history.specs.HistoryView.{plain_segment}
use Rattle.homeo_merge.proofs.Picking.{one_left, few_picked, site_within, taken_so_far, zeros_at, counts_more, picks_more}
use Rattle.homeo_history.proofs.Lists.{length_set}
use Rattle.homeo_merge.proofs.merge.pick.Goals as goal

pub loop-site-init : goal.loop-site-init
unfolding definitions
loop-site-init c = record {
  sites = ap length c.in_ok-taken.ensures ∙ length-replicate (length c.args.segments.now) 0;
  taken = λ i lt. ap (λ l. get_or l i 0) c.in_ok-taken.ensures ∙ zeros_at (length c.args.segments.now) i;
  calls = c.new-calls.ensures.items;
}

pub index-next-requires : goal.index-next-requires
index-next-requires c =
    let within = site_within c.args.segments.now c.args.choice.now c.requires.fits c.loop-site.site-index c.loop-site-test.true in
    omega (arith, within, c.loop-site.invariant.sites, c.loop-site.taken.ok.0)

pub call_at-requires-clause-site : goal.call_at-requires-clause-site
call_at-requires-clause-site c =
    site_within c.args.segments.now c.args.choice.now c.requires.fits c.loop-site.site-index c.loop-site-test.true

pub call_at-requires-clause-place : goal.call_at-requires-clause-place
call_at-requires-clause-place c =
    let so_far = c.loop-site in
    let choice = c.args.choice.now in
    let segments = c.args.segments.now in
    let within = site_within segments choice c.requires.fits so_far.site-index c.loop-site-test.true in
    let taken = taken_so_far (length segments) choice so_far.site-index so_far.taken.items c.index-next.result.now so_far.invariant.sites so_far.invariant.taken c.index-next.ensures within in
    omega (arith, taken, one_left segments choice c.requires.fits so_far.site-index c.loop-site-test.true)

pub overflow_add-next : goal.overflow_add-next
overflow_add-next c =
    let so_far = c.loop-site in
    let choice = c.args.choice.now in
    let segments = c.args.segments.now in
    let within = site_within segments choice c.requires.fits so_far.site-index c.loop-site-test.true in
    let taken = taken_so_far (length segments) choice so_far.site-index so_far.taken.items c.index-next.result.now so_far.invariant.sites so_far.invariant.taken c.index-next.ensures within in
    let few : c.index-next.result.now ≤ so_far.site-index = omega (arith, taken, few_picked segments choice c.requires.fits so_far.site-index c.loop-site-test.true) in
    omega arith

pub index_mut-requires : goal.index_mut-requires
index_mut-requires c =
    let within = site_within c.args.segments.now c.args.choice.now c.requires.fits c.loop-site.site-index c.loop-site-test.true in
    omega (arith, within, c.loop-site.invariant.sites, c.loop-site.taken.ok.0)

pub loop-site-preserved : goal.loop-site-preserved
loop-site-preserved c =
    let so_far = c.loop-site in
    let choice = c.args.choice.now in
    let segments = c.args.segments.now in
    let lt = c.loop-site-test.true in
    let next = c.index-next.result.now in
    let within = site_within segments choice c.requires.fits so_far.site-index lt in
    let taken = taken_so_far (length segments) choice so_far.site-index so_far.taken.items next so_far.invariant.sites so_far.invariant.taken c.index-next.ensures within in
    record {
      sites = length_set so_far.taken.items (get_or choice so_far.site-index 0) (next + 1) ∙ so_far.invariant.sites;
      taken = counts_more (length segments) choice so_far.site-index so_far.taken.items next lt so_far.invariant.sites so_far.invariant.taken taken within;
      calls = c.in_ok-push.ensures.items ∙ picks_more (map plain_segment segments) choice so_far.site-index next c.call_at.result so_far.calls.items lt so_far.invariant.calls taken c.call_at.ensures;
    }
