use Rattle.homeo_history.specs.Key.{definitions as history_definitions}
use Rattle.std.proofs.Common.{◌≡◌, ℕ, suc, ◌+◌, Some, slice_get, length, map, refl, ap, sym, subst, ◌∙◌, arith}
use Rattle.std.proofs.lemmas.List.{length-map}
use Rattle.std.proofs.lemmas.Option.{slice_get_read}
use Rattle.homeo_lemmas.proofs.Places.{get_map}
use Rattle.homeo_history.specs.Answers.{local_answer}
use Rattle.homeo_history.specs.History.{Entry as Made}
use Rattle.homeo_history.specs.HistoryView.{plain_entry}
use Rattle.homeo_history.specs.Legal.{IsClientAt}
use Rattle.homeo_history.proofs.Exists.{client_lt}
use Rattle.homeo_assembly.specs.Written.{written}
use Rattle.homeo_cluster.specs.Places.{kept_line, shut_line}
use Rattle.homeo_cluster.specs.inner.Grows.{Grew}
use Rattle.homeo_cluster.specs.inner.Moves.{IsMoving}
use Rattle.homeo_cluster.proofs.Moving.{moving_none, moving_more, moving_room, own_entry}
use Rattle.homeo_cluster.proofs.frame.Frame.move_segment.Goals as goal
use Rattle.homeo_cluster.proofs.frame.Frame.move_segment.Goals.{After-entry-item}
use Rattle.homeo_cluster.proofs.frame.Frame.move_segment.Given.{Over}

pub loop-entry-init : goal.loop-entry-init
loop-entry-init g c =
    moving_none g.N.ClusterNaming.workload c.args.site.now.state c.args.holder.now c.args.book.now c.requires.facts c.requires.holds c.requires.book c.requires.pairs

-- the entry whose turn it is
abbrev made : (g : Over) (c : After-entry-item g) → Made
made g c = plain_entry c.entry-item.result

at : (g : Over) (c : After-entry-item g) → slice_get c.args.site.now.state.segment c.loop-entry.entry-index ≡ Some (made g c)
unfolding history_definitions
at g c =
    let items = c.as_slice-entry-items.result.now in
    let here : slice_get items c.loop-entry.entry-index ≡ Some c.entry-item.result = slice_get_read items _ c.loop-entry.entry-index c.entry-item.result refl c.loop-entry-test.true c.entry-item.is in
    let same : map plain_entry items ≡ c.args.site.now.state.segment = ap (map plain_entry) c.as_slice-entry-items.ensures ∙ c.segment.ensures.segment in
    sym (ap (λ xs. slice_get xs c.loop-entry.entry-index) same) ∙ get_map plain_entry items c.loop-entry.entry-index c.entry-item.result here

own : (g : Over) (c : After-entry-item g) → IsClientAt g.N.ClusterNaming.workload c.args.site.now.state.number c.entry-item.result.call.client
unfolding history_definitions
own g c = own_entry g.N.ClusterNaming.workload c.args.site.now.state c.args.holder.now c.loop-entry.entry-index (made g c) c.requires.facts (at g c)

pub move_entry-requires-clause-there : goal.move_entry-requires-clause-there
move_entry-requires-clause-there g c =
    let e = (goal.at.move_entry-requires-clause-there g c).After-entry-item in
    client_lt g.N.ClusterNaming.workload c.args.site.now.state.number c.entry-item.result.call.client (own g e)

pub move_entry-requires-clause-owners : goal.move_entry-requires-clause-owners
move_entry-requires-clause-owners g c =
    let e = (goal.at.move_entry-requires-clause-owners g c).After-entry-item in
    let client = c.entry-item.result.call.client in (
      (c.loop-entry.invariant.holds.each client (own g e)).owns_shut,
      (c.loop-entry.invariant.keeps.book.each client (client_lt g.N.ClusterNaming.workload c.args.site.now.state.number client (own g e))).owns,
    )

pub move_entry-requires-clause-site : goal.move_entry-requires-clause-site
move_entry-requires-clause-site g c =
    let e = (goal.at.move_entry-requires-clause-site g c).After-entry-item in
    (c.loop-entry.invariant.holds.each c.entry-item.result.call.client (own g e)).seen_kept

pub move_entry-requires-clause-book : goal.move_entry-requires-clause-book
move_entry-requires-clause-book g c =
    let e = (goal.at.move_entry-requires-clause-book g c).After-entry-item in
    let client = c.entry-item.result.call.client in
    (c.loop-entry.invariant.keeps.book.each client (client_lt g.N.ClusterNaming.workload c.args.site.now.state.number client (own g e))).seen

pub move_entry-requires-clause-room : goal.move_entry-requires-clause-room
move_entry-requires-clause-room g c =
    let e = (goal.at.move_entry-requires-clause-room g c).After-entry-item in
    moving_room g.N.ClusterNaming.workload c.args.site.now.state c.loop-entry.entry-index c.args.holder.now c.args.book.now c.loop-entry.holder c.loop-entry.book c.entry-item.result.call.client
    c.requires.facts c.requires.short c.loop-entry.invariant (own g e)

pub loop-entry-preserved : goal.loop-entry-preserved
unfolding history_definitions
loop-entry-preserved g c =
    let w = g.N.ClusterNaming.workload in
    let x = c.args.site.now.state in
    let e = (goal.at.loop-entry-preserved g c).After-entry-item in
    let k = c.loop-entry.entry-index in
    let m : Made = plain_entry c.entry-item.result in
    let round : c.round-round.result ≡ x.round = c.round-round.ensures in
    let number : c.number-number.result ≡ x.number = c.number-number.ensures in
    let next : suc k ≡ k + 1 = omega arith in
    let left : Grew c.loop-entry.holder c.move_entry.new.site (shut_line w m.call.client) (written (local_answer x.round x.number m)) =
    subst (λ (y : ℕ × ℕ). Grew c.loop-entry.holder c.move_entry.new.site (shut_line w m.call.client) (written (local_answer y.0 y.1 m))) (λ i. (round i, number i)) c.move_entry.ensures.site in
    let right : Grew c.loop-entry.book c.move_entry.new.book (kept_line w m.call.client) (written (local_answer x.round x.number m)) =
    subst (λ (y : ℕ × ℕ). Grew c.loop-entry.book c.move_entry.new.book (kept_line w m.call.client) (written (local_answer y.0 y.1 m))) (λ i. (round i, number i)) c.move_entry.ensures.book in
    subst (λ n. IsMoving w x n c.args.holder.now c.args.book.now c.move_entry.new.site c.move_entry.new.book) next
    (moving_more w x c.args.holder.now c.args.book.now c.loop-entry.holder c.move_entry.new.site c.loop-entry.book c.move_entry.new.book k m
    c.requires.facts (own g e) (at g e) left right c.move_entry.ensures.site_seen c.move_entry.ensures.book_seen c.loop-entry.invariant)

pub returns : goal.returns
unfolding history_definitions
returns g c =
    let items = c.as_slice-entry-items.result.now in
    let end : c.loop-entry.entry-index ≡ length items = omega (arith, c.loop-entry-test.false, c.loop-entry.auto.entry-index-end) in
    let all : length items ≡ length c.args.site.now.state.segment = sym (length-map items plain_entry) ∙ ap length (ap (map plain_entry) c.as_slice-entry-items.ensures ∙ c.segment.ensures.segment) in
    record { moved = subst (λ n. IsMoving g.N.ClusterNaming.workload c.args.site.now.state n c.args.holder.now c.args.book.now c.loop-entry.holder c.loop-entry.book) (end ∙ all) c.loop-entry.invariant }
