use Rattle.homeo_history.specs.Key.{definitions as history_definitions}
use Rattle.std.proofs.Common.{◌≡◌, ℕ, suc, length, List, ◌++◌, ap, sym, subst, ◌∙◌, refl, inl, inr, ◌≤◌, arith}
use Rattle.std.specs.Prelude.{ℤ}
use Rattle.homeo_notes.specs.Lines.{IsOwner, HasSeen, list_at}
use Rattle.homeo_history.specs.Answers.{Answer}
use Rattle.homeo_history.specs.HistoryView.{plain_answer}
use Rattle.homeo_history.specs.Legal.{IsClientAt}
use Rattle.homeo_history.proofs.ClientAnswers.{one_site}
use Rattle.std.proofs.lemmas.List.{length-map}
use Rattle.homeo_assembly.specs.Key.{definitions}
use Rattle.homeo_assembly.specs.Written.{written, read}
use Rattle.homeo_cluster.specs.inner.Cells.{HoldsAt, HoldsFor}
use Rattle.homeo_cluster.specs.Places.{asked_line, done_line}
use Rattle.homeo_cluster.specs.inner.Grows.{Grew}
use Rattle.homeo_cluster.specs.inner.Renewed.{CanAsk}
use Rattle.homeo_cluster.proofs.Entries.{written_closing}
use Rattle.homeo_cluster.proofs.Giving.{given_here, given_elsewhere}
use Rattle.homeo_cluster.proofs.Locals.{holds_more}
use Rattle.homeo_cluster.proofs.frame.Frame.give.Goals as goal
use Rattle.homeo_cluster.proofs.frame.Frame.give.Goals.{After-extend_pair}
use Rattle.homeo_cluster.proofs.frame.Frame.give.Given.{Over}

abbrev LineEntry : Type 0
LineEntry = ℕ × List ℤ

-- the client is one of the site
own : (g : Over) (c : After-extend_pair g) → IsClientAt g.N.ClusterNaming.workload c.args.number c.args.answer.now.client
own g c = subst (λ n. IsClientAt g.N.ClusterNaming.workload n c.args.answer.now.client) c.if-home-number.true c.home.ensures.at

entry : (g : Over) (c : After-extend_pair g) → c.closing_head-head.result ++ c.as_slice.result.now ≡ written (plain_answer c.args.answer.now)
unfolding history_definitions
entry g c =
    written_closing (plain_answer c.args.answer.now) c.args.broken c.closing_head-head.result c.as_slice.result.now c.requires.path c.closing_head-head.ensures c.as_slice.ensures

done_grew : (g : Over) (c : After-extend_pair g) → Grew c.args.site.now c.extend_pair.new.left (done_line g.N.ClusterNaming.workload c.args.answer.now.client) (written (plain_answer c.args.answer.now))
done_grew g c =
    subst (λ (x : LineEntry). Grew c.args.site.now c.extend_pair.new.left x.0 x.1) (λ i. (c.done-done.ensures i, entry g c i)) c.extend_pair.ensures.left

asked_grew : (g : Over) (c : After-extend_pair g) → Grew c.args.asker.now c.extend_pair.new.right (asked_line c.args.answer.now.client) (written (plain_answer c.args.answer.now))
asked_grew g c =
    subst (λ (x : List ℤ). Grew c.args.asker.now c.extend_pair.new.right (asked_line c.args.answer.now.client) x) (entry g c) c.extend_pair.ensures.right

done_seen : (g : Over) (c : After-extend_pair g) → HasSeen c.extend_pair.new.left (asked_line c.args.answer.now.client) (list_at c.extend_pair.new.left (done_line g.N.ClusterNaming.workload c.args.answer.now.client))
done_seen g c =
    subst (λ l. HasSeen c.extend_pair.new.left (asked_line c.args.answer.now.client) (list_at c.extend_pair.new.left l)) c.done-done.ensures c.extend_pair.ensures.left_seen

-- the site's holder in between
between : (g : Over) (c : After-extend_pair g) → HoldsAt g.N.ClusterNaming.workload c.args.number c.extend_pair.new.left
between g c =
    holds_more g.N.ClusterNaming.workload c.args.number c.args.answer.now.client c.args.site.now c.extend_pair.new.left (written (plain_answer c.args.answer.now)) c.requires.holds (own g c) (done_grew g c) (done_seen g c)

pub extend_pair-requires-then-home-number-clause-owners : goal.extend_pair-requires-then-home-number-clause-owners
extend_pair-requires-then-home-number-clause-owners g c =
    let e = (goal.at.extend_pair-requires-then-home-number-clause-owners g c).After-extend_pair in
    let for : HoldsFor g.N.ClusterNaming.workload c.extend_pair.new.left c.args.answer.now.client = (between g e).each c.args.answer.now.client (own g e) in (
      subst (IsOwner c.extend_pair.new.left) (sym c.shut-shut.ensures) for.owns_shut,
      subst (IsOwner c.args.book.now) (sym c.kept-kept.ensures) (c.requires.book.each c.args.answer.now.client c.requires.there).owns,
    )

pub extend_pair-requires-then-home-number-clause-left : goal.extend_pair-requires-then-home-number-clause-left
extend_pair-requires-then-home-number-clause-left g c =
    let e = (goal.at.extend_pair-requires-then-home-number-clause-left g c).After-extend_pair in
    let for : HoldsFor g.N.ClusterNaming.workload c.extend_pair.new.left c.args.answer.now.client = (between g e).each c.args.answer.now.client (own g e) in
    subst (λ (x : ℕ × ℕ). HasSeen c.extend_pair.new.left x.1 (list_at c.extend_pair.new.left x.0)) (λ i. (sym c.shut-shut.ensures i, sym c.kept-kept.ensures i)) for.seen_kept

pub returns-then-home-number-clause-given : goal.returns-then-home-number-clause-given
unfolding history_definitions
returns-then-home-number-clause-given g c =
    let w = g.N.ClusterNaming.workload in
    let a : Answer = plain_answer c.args.answer.now in
    let e = (goal.at.returns-then-home-number-clause-given g c).After-extend_pair in
    let shut = c.shut-shut.ensures in
    let kept = c.kept-kept.ensures in
    let written_is : c.closing_head-head.result ++ c.as_slice-then-home-number.result.now ≡ written a = ap (λ xs. c.closing_head-head.result ++ xs) (c.as_slice-then-home-number.ensures ∙ sym c.as_slice.ensures) ∙ entry g e in
    let two = c.extend_pair-then-home-number in
    given_here w c.args.number a c.args.site.now c.extend_pair.new.left two.new.left c.args.book.now two.new.right (own g e) c.requires.holds c.requires.pairs c.requires.book
    (done_grew g e) (done_seen g e)
    (subst (λ (x : LineEntry). Grew c.extend_pair.new.left two.new.left x.0 x.1) (λ i. (shut i, written_is i)) two.ensures.left)
    (subst (λ (x : ℕ × ℕ). HasSeen two.new.left x.1 (list_at two.new.left x.0)) (λ i. (shut i, kept i)) two.ensures.left_seen)
    (subst (λ (x : LineEntry). Grew c.args.book.now two.new.right x.0 x.1) (λ i. (kept i, written_is i)) two.ensures.right)
    (subst (λ (x : ℕ × ℕ). HasSeen two.new.right x.0 (list_at two.new.right x.1)) (λ i. (shut i, kept i)) two.ensures.right_seen)

pub returns-then-home-number-clause-asked : goal.returns-then-home-number-clause-asked
unfolding history_definitions
returns-then-home-number-clause-asked g c =
    let w = g.N.ClusterNaming.workload in
    let e = (goal.at.returns-then-home-number-clause-asked g c).After-extend_pair in
    inl (
      own g e,
      record {
        grew = asked_grew g e;
        seen = subst (λ l. HasSeen c.extend_pair.new.right l (list_at c.extend_pair.new.right (asked_line c.args.answer.now.client))) c.done-done.ensures c.extend_pair.ensures.right_seen;
      },
    )

pub returns-else-home-number-clause-given : goal.returns-else-home-number-clause-given
unfolding history_definitions
returns-else-home-number-clause-given g c =
    let w = g.N.ClusterNaming.workload in
    given_elsewhere w c.args.number (plain_answer c.args.answer.now) c.args.site.now c.args.book.now
    (λ at. c.if-home-number.false (one_site w c.args.answer.now.client c.home.result c.args.number c.home.ensures.at at))
    c.requires.holds c.requires.pairs c.requires.book

pub returns-else-home-number-clause-asked : goal.returns-else-home-number-clause-asked
unfolding history_definitions
returns-else-home-number-clause-asked g c =
    let w = g.N.ClusterNaming.workload in
    inr ((λ at. c.if-home-number.false (one_site w c.args.answer.now.client c.home.result c.args.number c.home.ensures.at at)), refl)

pub returns-then-home-number-clause-next : goal.returns-then-home-number-clause-next
unfolding definitions history_definitions
returns-then-home-number-clause-next g c at =
    let w = g.N.ClusterNaming.workload in
    let client = c.args.answer.now.client in
    let e = (goal.at.returns-then-home-number-clause-next g c).After-extend_pair in
    let equal : list_at c.args.site.now c.done-done.result ≡ list_at c.args.asker.now client = c.extend_pair.ensures.equal in
    (c.requires.asker (own g e)).next
    ∙ ap (λ es. suc (length es)) (sym equal ∙ ap (list_at c.args.site.now) c.done-done.ensures)
    ∙ ap suc (sym (length-map (list_at c.args.site.now (done_line w client)) (read client)))

pub returns-else-home-number-clause-next : goal.returns-else-home-number-clause-next
unfolding definitions history_definitions
returns-else-home-number-clause-next g c at =
    absurd (c.if-home-number.false (one_site g.N.ClusterNaming.workload c.args.answer.now.client c.home.result c.args.number c.home.ensures.at at))

pub extend_pair-requires-clause-owners : goal.extend_pair-requires-clause-owners
unfolding history_definitions
extend_pair-requires-clause-owners g c =
    let w = g.N.ClusterNaming.workload in
    let here : IsClientAt w c.args.number c.args.answer.now.client = subst (λ n. IsClientAt w n c.args.answer.now.client) c.if-home-number.true c.home.ensures.at in
    let can : CanAsk w (plain_answer c.args.answer.now) c.args.asker.now = c.requires.asker here in
    (subst (IsOwner c.args.site.now) (sym c.done-done.ensures) (c.requires.holds.each c.args.answer.now.client here).owns_done, can.owns)

pub extend_pair-requires-clause-right : goal.extend_pair-requires-clause-right
unfolding history_definitions
extend_pair-requires-clause-right g c =
    let w = g.N.ClusterNaming.workload in
    let here : IsClientAt w c.args.number c.args.answer.now.client = subst (λ n. IsClientAt w n c.args.answer.now.client) c.if-home-number.true c.home.ensures.at in
    let can : CanAsk w (plain_answer c.args.answer.now) c.args.asker.now = c.requires.asker here in
    subst (λ l. HasSeen c.args.asker.now l (list_at c.args.asker.now (asked_line c.args.answer.now.client))) (sym c.done-done.ensures) can.seen

pub extend_pair-requires-clause-room : goal.extend_pair-requires-clause-room
unfolding history_definitions
extend_pair-requires-clause-room g c =
    let w = g.N.ClusterNaming.workload in
    let here : IsClientAt w c.args.number c.args.answer.now.client = subst (λ n. IsClientAt w n c.args.answer.now.client) c.if-home-number.true c.home.ensures.at in
    let can : CanAsk w (plain_answer c.args.answer.now) c.args.asker.now = c.requires.asker here in
    let next : c.args.answer.now.seq ≡ suc (length (list_at c.args.asker.now c.args.answer.now.client)) = can.next in
    let few : c.args.answer.now.seq ≤ 9223372036854775808 = can.few in
    omega (arith, next, few)
