use Rattle.homeo_core.specs.Key.{definitions as core_definitions}
use Rattle.std.proofs.Common.{◌≡◌, ℕ, suc, ◌+◌, Some, slice_get, length, take, refl, sym, ap, subst, ◌∙◌, arith, FitsSigned}
use Rattle.std.specs.Int.{w64}
use Rattle.std.specs.Prelude.{All}
use Rattle.std.proofs.lemmas.Option.{slice_get_read}
use Rattle.homeo_lemmas.proofs.Lists.{take_whole}
use Rattle.homeo_site.specs.SiteView.{SiteValue}
use Rattle.homeo_round.specs.GatherView.{GatherValue}
use Rattle.homeo_round.specs.PlusDeltas.{plus_deltas}
use Rattle.homeo_core.specs.Joined.{gathered}
use Rattle.homeo_core.proofs.GatheredSites.{gathered_next}
use Rattle.homeo_cluster.specs.inner.Cells.{CellValue}
use Rattle.homeo_cluster.specs.inner.Meets.{site_states}
use Rattle.homeo_cluster.proofs.Settles.{states_get, states_long}
use Rattle.homeo_cluster.proofs.finish.last_database.Goals as goal
use Rattle.homeo_cluster.proofs.finish.last_database.Goals.{After-site}
use Rattle.homeo_cluster.proofs.finish.last_database.Given.{Over}

-- the site whose turn it is
here : (g : Over) (c : After-site g) → slice_get (site_states c.args.cells.now) c.loop-cell.cell-index ≡ Some c.site.result.now.state
here g c =
    let v : CellValue = c.cell-item.result in
    states_get c.args.cells.now c.loop-cell.cell-index v (slice_get_read c.args.cells.now _ c.loop-cell.cell-index v refl c.loop-cell-test.true c.cell-item.is)
    ∙ ap (λ (s : SiteValue). Some s.state) (sym c.site.ensures)

pub loop-cell-init : goal.loop-cell-init
unfolding core_definitions
loop-cell-init g c = c.in_ok-gather.ensures

pub add-requires-clause-number : goal.add-requires-clause-number
unfolding core_definitions
add-requires-clause-number g c =
    (c.requires.at c.loop-cell.cell-index c.site.result.now.state (here g c)).numbered ∙ sym (ap (λ (x : GatherValue). x.added) c.loop-cell.invariant)

pub add-requires-clause-round : goal.add-requires-clause-round
unfolding core_definitions
add-requires-clause-round g c =
    (c.requires.at c.loop-cell.cell-index c.site.result.now.state (here g c)).in_round ∙ sym (ap (λ (x : GatherValue). x.round) c.loop-cell.invariant)

pub add-requires-clause-base : goal.add-requires-clause-base
unfolding core_definitions
add-requires-clause-base g c =
    (c.requires.at c.loop-cell.cell-index c.site.result.now.state (here g c)).on_base ∙ sym (ap (λ (x : GatherValue). x.base) c.loop-cell.invariant)

pub add-requires-clause-fits : goal.add-requires-clause-fits
add-requires-clause-fits g c =
    let i = c.loop-cell.cell-index in
    let deltas = c.site.result.now.state.deltas in
    let sum : gathered c.args.base.now.items (take (suc i) (site_states c.args.cells.now)) ≡ plus_deltas c.loop-cell.gather.sum deltas =
    gathered_next c.args.base.now.items (site_states c.args.cells.now) i c.site.result.now.state (here g c)
    ∙ sym (ap (λ (x : GatherValue). plus_deltas x.sum deltas) c.loop-cell.invariant) in
    subst (All (FitsSigned w64)) sum (c.requires.fits (suc i))

pub loop-cell-preserved : goal.loop-cell-preserved
loop-cell-preserved g c =
    let e = (goal.at.loop-cell-preserved g c).After-site in
    let i = c.loop-cell.cell-index in
    let x = c.site.result.now.state in
    let next : suc i ≡ i + 1 = omega arith in
    let same = c.loop-cell.invariant in
    let round : c.add.new.self.round ≡ c.args.round = c.add.ensures.round ∙ ap (λ (g : GatherValue). g.round) same in
    let base : c.add.new.self.base ≡ c.args.base.now.items = c.add.ensures.base ∙ ap (λ (g : GatherValue). g.base) same in
    let added : c.add.new.self.added ≡ i + 1 = c.add.ensures.added ∙ ap (λ (g : GatherValue). g.added + 1) same in
    let sum : c.add.new.self.sum ≡ gathered c.args.base.now.items (take (i + 1) (site_states c.args.cells.now)) =
    c.add.ensures.sum
    ∙ ap (λ (g : GatherValue). plus_deltas g.sum x.deltas) same
    ∙ sym (gathered_next c.args.base.now.items (site_states c.args.cells.now) i x (here g e))
    ∙ ap (λ n. gathered c.args.base.now.items (take n (site_states c.args.cells.now))) next in
    (λ j. record { round = round j; base = base j; sum = sum j; added = added j })

pub returns : goal.returns
returns g c =
    let n : ℕ = length c.args.cells.now in
    let end : c.loop-cell.cell-index ≡ n = omega (arith, c.loop-cell-test.false, c.loop-cell.auto.cell-index-end) in
    let all : take n (site_states c.args.cells.now) ≡ site_states c.args.cells.now =
    ap (λ m. take m (site_states c.args.cells.now)) (sym (states_long c.args.cells.now)) ∙ take_whole (site_states c.args.cells.now) in
    c.into_values.ensures
    ∙ ap (λ (g : GatherValue). g.sum) c.loop-cell.invariant
    ∙ ap (λ m. gathered c.args.base.now.items (take m (site_states c.args.cells.now))) end
    ∙ ap (gathered c.args.base.now.items) all
