use Rattle.std.proofs.Common.{◌≡◌, ℕ, suc, ◌+◌, Some, length, take, sym, ap, subst, ◌∙◌, arith, FitsSigned}
use Rattle.std.specs.Int.{w64}
use Rattle.std.specs.Prelude.{slice_get, All}
use Rattle.homeo_lemmas.proofs.Lists.{take_whole}
use Rattle.homeo_site.specs.SiteView.{SiteValue}
use Rattle.homeo_round.specs.GatherView.{GatherValue}
use Rattle.homeo_round.specs.PlusDeltas.{plus_deltas}
use Rattle.homeo_core.specs.Key.{definitions}
use Rattle.homeo_core.specs.Joined.{gathered}
use Rattle.homeo_core.specs.SiteLists.{states}
use Rattle.homeo_core.proofs.GatheredSites.{states_at, states_count, gathered_next}
use Rattle.homeo_core.proofs.rounds.gather_all.Goals as goal

pub loop-site-init : goal.loop-site-init
unfolding definitions
loop-site-init c = c.in_ok-gather.ensures

pub add-requires-clause-number : goal.add-requires-clause-number
unfolding definitions
add-requires-clause-number c =
    let i = c.loop-site.site-index in
    let x : SiteValue = c.site-item.result in
    let here : slice_get (states c.args.sites.now) i ≡ Some x.state = states_at c.args.sites.now i x c.loop-site-test.true ∙ ap (λ (v : SiteValue). Some v.state) (sym c.site-item.is) in
    (c.requires.at i x.state here).numbered ∙ sym (ap (λ (g : GatherValue). g.added) c.loop-site.invariant)

pub add-requires-clause-round : goal.add-requires-clause-round
unfolding definitions
add-requires-clause-round c =
    let i = c.loop-site.site-index in
    let x : SiteValue = c.site-item.result in
    let here : slice_get (states c.args.sites.now) i ≡ Some x.state = states_at c.args.sites.now i x c.loop-site-test.true ∙ ap (λ (v : SiteValue). Some v.state) (sym c.site-item.is) in
    (c.requires.at i x.state here).in_round ∙ sym (ap (λ (g : GatherValue). g.round) c.loop-site.invariant)

pub add-requires-clause-base : goal.add-requires-clause-base
unfolding definitions
add-requires-clause-base c =
    let i = c.loop-site.site-index in
    let x : SiteValue = c.site-item.result in
    let here : slice_get (states c.args.sites.now) i ≡ Some x.state = states_at c.args.sites.now i x c.loop-site-test.true ∙ ap (λ (v : SiteValue). Some v.state) (sym c.site-item.is) in
    (c.requires.at i x.state here).on_base ∙ sym (ap (λ (g : GatherValue). g.base) c.loop-site.invariant)

pub add-requires-clause-fits : goal.add-requires-clause-fits
unfolding definitions
add-requires-clause-fits c =
    let i = c.loop-site.site-index in
    let x : SiteValue = c.site-item.result in
    let here : slice_get (states c.args.sites.now) i ≡ Some x.state = states_at c.args.sites.now i x c.loop-site-test.true ∙ ap (λ (v : SiteValue). Some v.state) (sym c.site-item.is) in
    let sum : gathered c.args.base.now.items (take (suc i) (states c.args.sites.now)) ≡ plus_deltas c.loop-site.gather.sum x.state.deltas =
    gathered_next c.args.base.now.items (states c.args.sites.now) i x.state here
    ∙ sym (ap (λ (g : GatherValue). plus_deltas g.sum x.state.deltas) c.loop-site.invariant) in
    subst (All (FitsSigned w64)) sum (c.requires.fits (suc i))

pub loop-site-preserved : goal.loop-site-preserved
unfolding definitions
loop-site-preserved c =
    let i = c.loop-site.site-index in
    let x : SiteValue = c.site-item.result in
    let next : suc i ≡ i + 1 = omega arith in
    let here : slice_get (states c.args.sites.now) i ≡ Some x.state = states_at c.args.sites.now i x c.loop-site-test.true ∙ ap (λ (v : SiteValue). Some v.state) (sym c.site-item.is) in
    let same = c.loop-site.invariant in
    let round : c.add.new.self.round ≡ c.args.round = c.add.ensures.round ∙ ap (λ (g : GatherValue). g.round) same in
    let base : c.add.new.self.base ≡ c.args.base.now.items = c.add.ensures.base ∙ ap (λ (g : GatherValue). g.base) same in
    let added : c.add.new.self.added ≡ i + 1 = c.add.ensures.added ∙ ap (λ (g : GatherValue). g.added + 1) same in
    let sum : c.add.new.self.sum ≡ gathered c.args.base.now.items (take (i + 1) (states c.args.sites.now)) =
    c.add.ensures.sum
    ∙ ap (λ (g : GatherValue). plus_deltas g.sum x.state.deltas) same
    ∙ sym (gathered_next c.args.base.now.items (states c.args.sites.now) i x.state here)
    ∙ ap (λ n. gathered c.args.base.now.items (take n (states c.args.sites.now))) next in
    (λ j. record { round = round j; base = base j; sum = sum j; added = added j })

pub returns : goal.returns
unfolding definitions
returns c =
    let n : ℕ = length c.args.sites.now in
    let end : c.loop-site.site-index ≡ n = omega (arith, c.loop-site-test.false, c.loop-site.auto.site-index-end) in
    let all : take n (states c.args.sites.now) ≡ states c.args.sites.now = ap (λ m. take m (states c.args.sites.now)) (sym (states_count c.args.sites.now)) ∙ take_whole (states c.args.sites.now) in
    c.loop-site.invariant
    ∙ (λ j. record {
      round = c.args.round;
      base = c.args.base.now.items;
      sum = (ap (λ m. gathered c.args.base.now.items (take m (states c.args.sites.now))) end ∙ ap (gathered c.args.base.now.items) all) j;
      added = end j;
    })
