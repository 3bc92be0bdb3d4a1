use Rattle.homeo_history.specs.Key.{definitions as history_definitions}
use Rattle.homeo_core.specs.Key.{definitions as core_definitions}
use Rattle.std.proofs.Common.{rules, ◌≡◌, ℕ, suc, ◌-◌, ◌<◌, ◌≤◌, List, [], ◌∷◌, ◌++◌, length, map, refl, sym, ap, subst, ◌∙◌, arith}
use Rattle.std.proofs.lemmas.List.{length-map, map-append}
use Rattle.homeo_meaning.specs.declared.call.CallId.{CallId}
use Rattle.homeo_notes.specs.Lines.{IsOwner, HasSeen, list_at}
use Rattle.homeo_history.specs.Answers.{Answer, called, closing_answer}
use Rattle.homeo_history.specs.HistoryView.{plain_answer, plain_round}
use Rattle.homeo_history.specs.Legal.{IsClientAt}
use Rattle.homeo_site.specs.SiteState.{SiteState}
use Rattle.homeo_core.specs.Events.{BreaksCall, closing_of}
use Rattle.homeo_core.specs.Joined.{BookState}
use Rattle.homeo_core.specs.Books.{book_of}
use Rattle.homeo_assembly.specs.Events.{InHand}
use Rattle.homeo_assembly.specs.Facts.{BookLists}
use Rattle.homeo_assembly.specs.Written.{written}
use Rattle.homeo_cluster.specs.inner.Cells.{CellValue, book_state, book_lists, cells_of}
use Rattle.homeo_cluster.specs.Passes.{PassValue, IsReplied}
use Rattle.homeo_cluster.specs.Places.{asked_line, done_line}
use Rattle.homeo_cluster.specs.inner.Grows.{Grew}
use Rattle.homeo_cluster.specs.inner.Meets.{site_states}
use Rattle.homeo_cluster.specs.inner.Rows.{held_cells, IsPrepared}
use Rattle.homeo_cluster.proofs.Passes.{pass_more}
use Rattle.homeo_cluster.proofs.frame.Frame.close.Goals as goal

pub end_round-requires-clause-hand : goal.end_round-requires-clause-hand
unfolding core_definitions
end_round-requires-clause-hand g c =
    let w = g.N.ClusterNaming.workload in
    let vs : List CellValue = held_cells c.meet_row.new.cells.items in
    let b : BookState = book_state c.meet_row.new.book in
    let view : c.meet_row.new.book ≡ record { closed = map plain_round c.book.inside.closed.items; base = c.book.inside.base.items; held = c.book.inside.holder } = search rules in
    let kept : c.book.inside.closed.items ≡ c.reserve.new.self.items = search rules in
    let state : b ≡ book_of c.reserve.new.self.items c.book.inside.base.items =
    (λ i. book_state (view i)) ∙ (λ i. record { closed = map plain_round (kept i); base = c.book.inside.base.items }) in
    let lists : book_lists w c.meet_row.new.book.held ≡ book_lists w c.book.inside.holder = (λ i. book_lists w (view i).held) in
    subst (λ (x : BookState × BookLists). InHand w x.0 x.1 (cells_of w vs)) (λ i. (state i, lists i)) c.meet_row.ensures.met

pub end_round-requires-clause-breaks : goal.end_round-requires-clause-breaks
unfolding history_definitions core_definitions
end_round-requires-clause-breaks g c =
    let w = g.N.ClusterNaming.workload in
    let vs : List CellValue = held_cells c.meet_row.new.cells.items in
    let b : BookState = book_state c.meet_row.new.book in
    let p = c.deref.result.now in
    let a : Answer = plain_answer c.in_ok-answer.answer in
    let ready : IsPrepared w b (site_states vs) c.args.home c.next.result c.args.broken p =
    subst (IsPrepared w b (site_states vs) c.args.home c.next.result c.args.broken) (sym (c.deref.ensures ∙ c.in_ok-prepared.ensures.ok)) c.in_ok-made.ensures in
    let is : a ≡ closing_answer p.round (closing_of w b (site_states vs) c.args.home c.next.result c.args.broken) =
    c.in_ok-answer.ensures ∙ c.answer.ensures ∙ ap (closing_answer p.round) ready.closing in
    let site_is : c.in_ok-answer.answer.site ≡ c.args.home = ap (λ (x : Answer). x.site) is in
    let call_is : called a ≡ c.next.result = ap called is in
    subst (λ (x : ℕ × CallId). BreaksCall w (site_states vs) x.0 x.1 c.args.broken) (λ i. (sym site_is i, sym call_is i))
    (subst (λ (x : List SiteState × CallId). BreaksCall w x.0 c.args.home x.1 c.args.broken) (λ i. (sym c.meet_row.ensures.states i, sym c.next.ensures.call i)) c.requires.breaks)

pub end_round-requires-clause-prepared : goal.end_round-requires-clause-prepared
unfolding history_definitions core_definitions
end_round-requires-clause-prepared g c =
    let w = g.N.ClusterNaming.workload in
    let vs : List CellValue = held_cells c.meet_row.new.cells.items in
    let b : BookState = book_state c.meet_row.new.book in
    let p = c.deref.result.now in
    let a : Answer = plain_answer c.in_ok-answer.answer in
    let ready : IsPrepared w b (site_states vs) c.args.home c.next.result c.args.broken p =
    subst (IsPrepared w b (site_states vs) c.args.home c.next.result c.args.broken) (sym (c.deref.ensures ∙ c.in_ok-prepared.ensures.ok)) c.in_ok-made.ensures in
    let is : a ≡ closing_answer p.round (closing_of w b (site_states vs) c.args.home c.next.result c.args.broken) =
    c.in_ok-answer.ensures ∙ c.answer.ensures ∙ ap (closing_answer p.round) ready.closing in
    let site_is : c.in_ok-answer.answer.site ≡ c.args.home = ap (λ (x : Answer). x.site) is in
    let call_is : called a ≡ c.next.result = ap called is in
    let view : c.meet_row.new.book ≡ record { closed = map plain_round c.book.inside.closed.items; base = c.book.inside.base.items; held = c.book.inside.holder } = search rules in
    let kept : c.book.inside.closed.items ≡ c.reserve.new.self.items = search rules in
    let state : b ≡ book_of c.reserve.new.self.items c.book.inside.base.items =
    (λ i. book_state (view i)) ∙ (λ i. record { closed = map plain_round (kept i); base = c.book.inside.base.items }) in
    subst (IsPrepared w (book_of c.reserve.new.self.items c.book.inside.base.items) (site_states vs) c.in_ok-answer.answer.site (called a) c.args.broken)
    (c.deref.ensures ∙ sym c.into_inner.ensures)
    (subst (λ (x : BookState). IsPrepared w x (site_states vs) c.in_ok-answer.answer.site (called a) c.args.broken p) state
    (subst (λ (x : ℕ × CallId). IsPrepared w b (site_states vs) x.0 x.1 c.args.broken p) (λ i. (sym site_is i, sym call_is i)) ready))

pub end_round-requires-clause-asker : goal.end_round-requires-clause-asker
unfolding history_definitions core_definitions
end_round-requires-clause-asker g c =
    let w = g.N.ClusterNaming.workload in
    let vs : List CellValue = held_cells c.meet_row.new.cells.items in
    let b : BookState = book_state c.meet_row.new.book in
    let p = c.deref.result.now in
    let a : Answer = plain_answer c.in_ok-answer.answer in
    let ready : IsPrepared w b (site_states vs) c.args.home c.next.result c.args.broken p =
    subst (IsPrepared w b (site_states vs) c.args.home c.next.result c.args.broken) (sym (c.deref.ensures ∙ c.in_ok-prepared.ensures.ok)) c.in_ok-made.ensures in
    let is : a ≡ closing_answer p.round (closing_of w b (site_states vs) c.args.home c.next.result c.args.broken) =
    c.in_ok-answer.ensures ∙ c.answer.ensures ∙ ap (closing_answer p.round) ready.closing in
    let site_is : c.in_ok-answer.answer.site ≡ c.args.home = ap (λ (x : Answer). x.site) is in
    let call_is : called a ≡ c.next.result = ap called is in
    let next : c.next.result ≡ record { client = c.pass.inside.client; seq = suc (length (map plain_answer c.pass.inside.log.items)) } = search rules in
    let client : a.client ≡ c.pass.inside.client = ap (λ (k : CallId). k.client) (call_is ∙ next) in
    let seq : a.seq ≡ suc (length (map plain_answer c.pass.inside.log.items)) = ap (λ (k : CallId). k.seq) (call_is ∙ next) in
    let holds = c.pass.invariant.holds in
    record {
      owns = subst (λ n. IsOwner c.pass.inside.holder (asked_line n)) (sym client) holds.owns;
      seen = subst (λ n. HasSeen c.pass.inside.holder (done_line w n) (list_at c.pass.inside.holder (asked_line n))) (sym client) holds.seen;
      next =
          seq
          ∙ ap suc (sym (length-map (map plain_answer c.pass.inside.log.items) written) ∙ ap length (sym holds.asked) ∙ ap (λ n. length (list_at c.pass.inside.holder (asked_line n))) (sym client));
      few = subst (λ (k : CallId). k.seq ≤ 9223372036854775808) (sym call_is) c.next.ensures.few;
    }

pub invariant_of-pass-2 : goal.invariant_of-pass-2
unfolding history_definitions core_definitions
invariant_of-pass-2 g c =
    let w = g.N.ClusterNaming.workload in
    let vs : List CellValue = held_cells c.meet_row.new.cells.items in
    let b : BookState = book_state c.meet_row.new.book in
    let p = c.deref.result.now in
    let a : Answer = plain_answer c.in_ok-answer.answer in
    let ready : IsPrepared w b (site_states vs) c.args.home c.next.result c.args.broken p =
    subst (IsPrepared w b (site_states vs) c.args.home c.next.result c.args.broken) (sym (c.deref.ensures ∙ c.in_ok-prepared.ensures.ok)) c.in_ok-made.ensures in
    let is : a ≡ closing_answer p.round (closing_of w b (site_states vs) c.args.home c.next.result c.args.broken) =
    c.in_ok-answer.ensures ∙ c.answer.ensures ∙ ap (closing_answer p.round) ready.closing in
    let site_is : c.in_ok-answer.answer.site ≡ c.args.home = ap (λ (x : Answer). x.site) is in
    let call_is : called a ≡ c.next.result = ap called is in
    let next : c.next.result ≡ record { client = c.pass.inside.client; seq = suc (length (map plain_answer c.pass.inside.log.items)) } = search rules in
    let client : a.client ≡ c.pass.inside.client = ap (λ (k : CallId). k.client) (call_is ∙ next) in
    let seq : a.seq ≡ suc (length (map plain_answer c.pass.inside.log.items)) = ap (λ (k : CallId). k.seq) (call_is ∙ next) in
    let reserved : c.reserve-2.new.self.items ≡ c.pass.inside.log.items = search rules in
    let logged : map plain_answer c.push_reserved.new.log.items ≡ map plain_answer c.pass.inside.log.items ++ a ∷ [] =
    ap (map plain_answer) c.push_reserved.ensures
    ∙ map-append plain_answer c.reserve-2.new.self.items (c.in_ok-logged.logged ∷ [])
    ∙ (λ i. map plain_answer (reserved i) ++ c.in_ok-logged.ensures i ∷ []) in
    let some : 0 < c.pass.inside.left = search rules in
    pass_more w c.pass.inside.client c.pass.inside.left (c.pass.inside.left - 1) (map plain_answer c.pass.inside.log.items) (map plain_answer c.push_reserved.new.log.items) c.pass.inside.holder c.end_round.new.asker a
    c.pass.invariant (omega (arith, some)) logged client seq
    (subst (λ n. Grew c.pass.inside.holder c.end_round.new.asker (asked_line n) (written a)) client c.end_round.ensures.asked.grew)
    (subst (λ n. HasSeen c.end_round.new.asker (done_line w n) (list_at c.end_round.new.asker (asked_line n))) client c.end_round.ensures.asked.seen)

pub returns-clause-replied : goal.returns-clause-replied
unfolding history_definitions core_definitions
returns-clause-replied g c =
    let w = g.N.ClusterNaming.workload in
    let vs : List CellValue = held_cells c.meet_row.new.cells.items in
    let b : BookState = book_state c.meet_row.new.book in
    let p = c.deref.result.now in
    let a : Answer = plain_answer c.in_ok-answer.answer in
    let ready : IsPrepared w b (site_states vs) c.args.home c.next.result c.args.broken p =
    subst (IsPrepared w b (site_states vs) c.args.home c.next.result c.args.broken) (sym (c.deref.ensures ∙ c.in_ok-prepared.ensures.ok)) c.in_ok-made.ensures in
    let is : a ≡ closing_answer p.round (closing_of w b (site_states vs) c.args.home c.next.result c.args.broken) =
    c.in_ok-answer.ensures ∙ c.answer.ensures ∙ ap (closing_answer p.round) ready.closing in
    let site_is : c.in_ok-answer.answer.site ≡ c.args.home = ap (λ (x : Answer). x.site) is in
    let call_is : called a ≡ c.next.result = ap called is in
    let next : c.next.result ≡ record { client = c.pass.inside.client; seq = suc (length (map plain_answer c.pass.inside.log.items)) } = search rules in
    let client : a.client ≡ c.pass.inside.client = ap (λ (k : CallId). k.client) (call_is ∙ next) in
    let seq : a.seq ≡ suc (length (map plain_answer c.pass.inside.log.items)) = ap (λ (k : CallId). k.seq) (call_is ∙ next) in
    let reserved : c.reserve-2.new.self.items ≡ c.pass.inside.log.items = search rules in
    let logged : map plain_answer c.push_reserved.new.log.items ≡ map plain_answer c.pass.inside.log.items ++ a ∷ [] =
    ap (map plain_answer) c.push_reserved.ensures
    ∙ map-append plain_answer c.reserve-2.new.self.items (c.in_ok-logged.logged ∷ [])
    ∙ (λ i. map plain_answer (reserved i) ++ c.in_ok-logged.ensures i ∷ []) in
    let some : 0 < c.pass.inside.left = search rules in
    let was : c.args.pass.now ≡ record { client = c.pass.inside.client; left = c.pass.inside.left; log = map plain_answer c.pass.inside.log.items; held = c.pass.inside.holder } = search rules in
    let home : IsClientAt w c.args.home c.pass.inside.client = subst (λ (x : PassValue). IsClientAt w c.args.home x.client) was c.requires.home in
    subst (λ x. IsReplied w x (record { client = c.pass.inside.client; left = c.pass.inside.left - 1; log = map plain_answer c.push_reserved.new.log.items; held = c.end_round.new.asker }) a) (sym was) (record {
      client = refl;
      left = omega (arith, some);
      log = logged;
      call = call_is ∙ next;
      site = subst (λ n. IsClientAt w n c.pass.inside.client) (sym site_is) home;
    })
