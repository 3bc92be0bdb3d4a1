use Rattle.homeo_core.specs.Key.{definitions as core_definitions}
use Rattle.std.proofs.Common.{rules, ◌≡◌, suc, ◌+◌, ◌<◌, Some, slice_get, length, map, take, sym, ap, subst, ◌∙◌, arith, FitsSigned}
use Rattle.std.specs.Int.{w64}
use Rattle.std.specs.Prelude.{All}
use Rattle.std.proofs.lemmas.List.{length-map}
use Rattle.homeo_history.specs.HistoryView.{plain_round}
use Rattle.homeo_site.specs.SiteView.{SiteValue}
use Rattle.homeo_round.specs.GatherView.{GatherValue}
use Rattle.homeo_round.specs.PlusDeltas.{plus_deltas}
use Rattle.homeo_core.specs.Joined.{gathered}
use Rattle.homeo_core.proofs.GatheredSites.{gathered_next}
use Rattle.homeo_cluster.specs.inner.Cells.{CellValue}
use Rattle.homeo_cluster.specs.inner.Meets.{site_states}
use Rattle.homeo_cluster.specs.inner.Rows.{held_cells}
use Rattle.homeo_cluster.proofs.Rows.{held_at}
use Rattle.homeo_cluster.proofs.Settles.{states_get}
use Rattle.homeo_cluster.proofs.cleanup.gather_row.Goals as goal
use Rattle.homeo_cluster.proofs.cleanup.gather_row.Goals.{After-site}
use Rattle.homeo_cluster.proofs.cleanup.gather_row.Given.{Over}

-- the site whose turn it is
here : (g : Over) (c : After-site g) → slice_get (site_states (held_cells c.args.cells.now.items)) c.loop-i.i ≡ Some c.site.result.now.state
here g c =
    let gs = c.args.cells.now.items in
    let v : CellValue = c.deref.result.now in
    let lt : c.loop-i.i < length gs = search rules in
    states_get (held_cells gs) c.loop-i.i v (held_at gs c.loop-i.i c.index.result.now v lt c.index.ensures c.deref.ensures)
    ∙ ap (λ (s : SiteValue). Some s.state) (sym c.site.ensures)

pub loop-i-init : goal.loop-i-init
unfolding core_definitions
loop-i-init g c =
    let same : map plain_round c.book.inside.closed.items ≡ c.args.book.now.closed = search rules in
    let closed : length c.as_slice.result.now ≡ length c.args.book.now.closed = ap length c.as_slice.ensures ∙ sym (length-map c.book.inside.closed.items plain_round) ∙ ap length same in
    let base : c.book.inside.base.items ≡ c.args.book.now.base = search rules in
    c.in_ok-gather.ensures ∙ (λ j. record { round = closed j; base = base j; sum = base j; added = 0 })

pub add-requires-clause-number : goal.add-requires-clause-number
unfolding core_definitions
add-requires-clause-number g c =
    (c.requires.at c.loop-i.i c.site.result.now.state (here g c)).numbered ∙ sym (ap (λ (x : GatherValue). x.added) c.loop-i.invariant)

pub add-requires-clause-round : goal.add-requires-clause-round
unfolding core_definitions
add-requires-clause-round g c =
    (c.requires.at c.loop-i.i c.site.result.now.state (here g c)).in_round ∙ sym (ap (λ (x : GatherValue). x.round) c.loop-i.invariant)

pub add-requires-clause-base : goal.add-requires-clause-base
unfolding core_definitions
add-requires-clause-base g c =
    (c.requires.at c.loop-i.i c.site.result.now.state (here g c)).on_base ∙ sym (ap (λ (x : GatherValue). x.base) c.loop-i.invariant)

pub add-requires-clause-fits : goal.add-requires-clause-fits
add-requires-clause-fits g c =
    let i = c.loop-i.i in
    let deltas = c.site.result.now.state.deltas in
    let sites = site_states (held_cells c.args.cells.now.items) in
    let sum : gathered c.args.book.now.base (take (suc i) sites) ≡ plus_deltas c.loop-i.gather.sum deltas =
    gathered_next c.args.book.now.base sites i c.site.result.now.state (here g c)
    ∙ sym (ap (λ (x : GatherValue). plus_deltas x.sum deltas) c.loop-i.invariant) in
    subst (All (FitsSigned w64)) sum (c.requires.fits (suc i))

pub loop-i-preserved : goal.loop-i-preserved
loop-i-preserved g c =
    let e = (goal.at.loop-i-preserved g c).After-site in
    let i = c.loop-i.i in
    let x = c.site.result.now.state in
    let sites = site_states (held_cells c.args.cells.now.items) in
    let next : suc i ≡ i + 1 = omega arith in
    let same = c.loop-i.invariant in
    let round : c.add.new.self.round ≡ length c.args.book.now.closed = c.add.ensures.round ∙ ap (λ (g : GatherValue). g.round) same in
    let base : c.add.new.self.base ≡ c.args.book.now.base = c.add.ensures.base ∙ ap (λ (g : GatherValue). g.base) same in
    let added : c.add.new.self.added ≡ i + 1 = c.add.ensures.added ∙ ap (λ (g : GatherValue). g.added + 1) same in
    let sum : c.add.new.self.sum ≡ gathered c.args.book.now.base (take (i + 1) sites) =
    c.add.ensures.sum
    ∙ ap (λ (g : GatherValue). plus_deltas g.sum x.deltas) same
    ∙ sym (gathered_next c.args.book.now.base sites i x (here g e))
    ∙ ap (λ n. gathered c.args.book.now.base (take n sites)) next in
    (λ j. record { round = round j; base = base j; sum = sum j; added = added j })
