use Rattle.homeo_history.specs.Key.{definitions as history_definitions}
use Rattle.homeo_core.specs.Key.{definitions as core_definitions}
use Rattle.homeo_assembly.specs.Key.{definitions}
use Rattle.std.proofs.Common.{rules, ◌≡◌, ◌≢◌, ℕ, ◌+◌, ◌<◌, ◌≤◌, Bool, true, false, List, [], ◌∷◌, ◌++◌, length, map, replicate, vec_len, Some, refl, sym, ap, subst, ◌∙◌, arith}
use Rattle.std.specs.Prelude.{ℤ, All, slice_get}
use Rattle.std.proofs.lemmas.List.{length-map, map-append, length-replicate}
use Rattle.std.proofs.lemmas.List.Elements.{All-replicate}
use Rattle.std.proofs.lemmas.Option.{slice_get_within}
use Rattle.homeo_lemmas.proofs.Places.{get_map}
use Rattle.homeo_meaning.specs.Bounds.{IsWithin}
use Rattle.homeo_meaning.specs.declared.call.CallId.{CallId}
use Rattle.homeo_meaning.specs.Initial.{initial}
use Rattle.homeo_meaning.specs.Schema.{schema_of}
use Rattle.homeo_notes.specs.Lines.{HasSeen, list_at}
use Rattle.homeo_history.specs.Answers.{Answer, called, closing_answer}
use Rattle.homeo_history.specs.History.{Closing}
use Rattle.homeo_history.specs.HistoryView.{plain_answer, plain_round}
use Rattle.homeo_history.specs.declared.answer.Path.TheVariants.{Cleanup}
use Rattle.homeo_history.specs.Legal.{IsClientAt, call_count}
use Rattle.homeo_history.proofs.ClientAnswers.{client_at}
use Rattle.homeo_history.proofs.Exists.{client_lt}
use Rattle.homeo_site.specs.SiteState.{SiteState}
use Rattle.homeo_core.specs.Events.{BreaksCall, closing_of, next_base, after_closing}
use Rattle.homeo_core.specs.PreparedView.{PreparedValue}
use Rattle.homeo_core.specs.Joined.{BookState, AreJoined, segments_of}
use Rattle.homeo_core.specs.Books.{book_of}
use Rattle.homeo_core.specs.SiteLists.{AreAt, first_from}
use Rattle.homeo_core.proofs.ClosingCalls.{next_within}
use Rattle.homeo_core.proofs.GatheredSites.{from_all}
use Rattle.homeo_core.proofs.InRounds.{at_round}
use Rattle.homeo_assembly.specs.Facts.{states_of}
use Rattle.homeo_assembly.proofs.MetLists as met_lists
use Rattle.homeo_assembly.specs.Written.{read}
use Rattle.homeo_cluster.specs.inner.Cells.{CellValue, KeepsFor, book_lists, cell_of, cells_of}
use Rattle.homeo_cluster.specs.Places.{kept_line, done_line, shut_line, at_line, bases_line}
use Rattle.homeo_cluster.specs.inner.Grows.{Grew}
use Rattle.homeo_cluster.specs.inner.Meets.{site_states}
use Rattle.homeo_cluster.specs.inner.Rows.{held_cells, HaveGoneOn}
use Rattle.homeo_cluster.proofs.Closed as closed
use Rattle.homeo_cluster.proofs.Grows.{grew_by_extend, grew_same, grew_list_other, grew_owner_same, grew_owner_other, grew_seen}
use Rattle.homeo_cluster.proofs.Moving.{bases_apart}
use Rattle.homeo_cluster.proofs.Rows.{held_long, joined_hand, states_are}
use Rattle.homeo_cluster.proofs.Settles.{states_long}
use Rattle.homeo_cluster.proofs.frame.Frame.end_round.Goals as goal
use Rattle.homeo_cluster.proofs.frame.Frame.end_round.Goals.{After-extend, After-renew_row}
use Rattle.homeo_cluster.proofs.frame.Frame.end_round.Given.{Over}

-- ---- what is in hand
abbrev cells : (g : Over) (c : After-extend g) → List CellValue
cells g c = held_cells c.args.cells.now.items

abbrev book : (g : Over) (c : After-extend g) → BookState
book g c = book_of c.args.closed.now.items c.args.base.now.items

joined : (g : Over) (c : After-extend g) → AreJoined g.N.ClusterNaming.workload (initial g.N.ClusterNaming.workload) (book g c) (site_states (cells g c))
joined g c = joined_hand g.N.ClusterNaming.workload (cells g c) (book g c) (book_lists g.N.ClusterNaming.workload c.args.book.now) c.requires.hand

extended : (g : Over) (c : After-extend g) → Grew c.args.book.now c.extend.new.holder (bases_line g.N.ClusterNaming.workload) c.args.next.now
extended g c =
    subst (λ l. Grew c.args.book.now c.extend.new.holder l c.args.next.now) c.bases-bases.ensures
    (grew_by_extend c.args.book.now c.extend.new.holder c.bases-bases.result c.args.next.now c.extend.ensures.appended)

count_is : (g : Over) (c : After-extend g) → length (cells g c) ≡ vec_len c.args.cells.now
count_is g c =
    let long : length c.args.cells.now.items ≡ vec_len c.args.cells.now = search rules in
    held_long c.args.cells.now.items ∙ long

pub renew_row-requires-clause-rounds : goal.renew_row-requires-clause-rounds
unfolding core_definitions
renew_row-requires-clause-rounds g c =
    let e = (goal.at.renew_row-requires-clause-rounds g c).After-extend in
    let p = c.requires.prepared in
    subst (λ (x : ℕ × List ℤ). AreAt x.0 x.1 (site_states (cells g e))) (λ i. (sym p.round i, sym p.base i))
    (at_round g.N.ClusterNaming.workload (initial g.N.ClusterNaming.workload) (book g e) (site_states (cells g e)) (joined g e))

pub renew_row-requires-clause-within : goal.renew_row-requires-clause-within
renew_row-requires-clause-within g c =
    let e = (goal.at.renew_row-requires-clause-within g c).After-extend in
    let w = g.N.ClusterNaming.workload in
    subst (IsWithin (schema_of w)) (sym c.requires.prepared.next)
    (next_within w (initial w) (book g e) (site_states (cells g e)) c.args.answer.now.site (called (plain_answer c.args.answer.now)) c.args.broken c.accepted.ensures (joined g e) c.requires.breaks)

pub renew_row-requires-clause-path : goal.renew_row-requires-clause-path
unfolding history_definitions core_definitions
renew_row-requires-clause-path g c =
    ap (λ (a : Answer). a.path) c.requires.answer ∙ ap (λ (k : Closing). Cleanup k.broken) c.requires.prepared.closing

asker_at : (g : Over) (c : After-extend g) → IsClientAt g.N.ClusterNaming.workload c.args.answer.now.site c.args.answer.now.client
unfolding history_definitions
asker_at g c = client_at g.N.ClusterNaming.workload (called (plain_answer c.args.answer.now)) c.args.answer.now.site c.requires.breaks.at_site.at_site

pub renew_row-requires-clause-there : goal.renew_row-requires-clause-there
renew_row-requires-clause-there g c =
    client_lt g.N.ClusterNaming.workload c.args.answer.now.site c.args.answer.now.client (asker_at g (goal.at.renew_row-requires-clause-there g c).After-extend)

pub renew_row-requires-clause-each : goal.renew_row-requires-clause-each
unfolding definitions core_definitions
renew_row-requires-clause-each g c i v at =
    let w = g.N.ClusterNaming.workload in
    let e = (goal.at.renew_row-requires-clause-each g c).After-extend in
    let hand = c.requires.hand in
    let here : slice_get (cells_of w (cells g e)) i ≡ Some (cell_of w v) = get_map (cell_of w) (cells g e) i v at in
    let number : v.site.state.number ≡ i = c.requires.numbers i v at in
    let p = c.requires.prepared in
    let round : v.site.state.round ≡ length (book g e).closed = ((joined g e).round.each i v.site.state (get_map (λ (k : CellValue). k.site.state) (cells g e) i v at)).round in
    let same : c.args.prepared.round ≡ length (book g e).closed = p.round in
    let few : c.args.prepared.round + 1 < 9223372036854775808 = p.few in
    record {
      pairs = λ client own.
          hand.met.shut client i (cell_of w v) own here
          ∙ sym (ap (map (read client)) (grew_list_other c.args.book.now c.extend.new.holder (bases_line w) (kept_line w client) c.args.next.now (extended g e)
          (λ q. bases_apart w client (client_lt w i client own) (sym q))));
      short = λ client own.
          subst (λ n. n ≤ call_count w client) (length-map (list_at v.held (done_line w client)) (read client))
          (met_lists.done_short w (book g e) (book_lists w c.args.book.now) (cells_of w (cells g e)) hand.book hand.sites hand.met c.accepted.ensures client i (cell_of w v) own here);
      ahead =
          grew_same c.args.book.now c.extend.new.holder (bases_line w) (bases_line w) c.args.next.now (extended g e) refl
          ∙ ap (λ xs. xs ++ c.args.next.now ∷ []) (sym (hand.met.at i (cell_of w v) here) ∙ ap (λ n. list_at v.held (at_line w n)) number);
      few = omega (arith, round, same, few);
    }

pub renew_row-requires-clause-book : goal.renew_row-requires-clause-book
renew_row-requires-clause-book g c =
    let w = g.N.ClusterNaming.workload in
    let e = (goal.at.renew_row-requires-clause-book g c).After-extend in
    let old = c.args.book.now in
    let new = c.extend.new.holder in
    let g1 = extended g e in
    record {
      owns = grew_owner_same old new (bases_line w) (bases_line w) c.args.next.now g1 refl;
      each = λ client lt.
          let was : KeepsFor w old client = c.requires.holds.each client lt in
          let other : kept_line w client ≢ bases_line w = (λ q. bases_apart w client lt (sym q)) in record {
            owns = grew_owner_other old new (bases_line w) (kept_line w client) c.args.next.now g1 other was.owns;
            seen = subst (HasSeen new (shut_line w client)) (sym (grew_list_other old new (bases_line w) (kept_line w client) c.args.next.now g1 other))
                (grew_seen old new (bases_line w) (shut_line w client) c.args.next.now (list_at old (kept_line w client)) g1 was.seen);
          };
    }

-- ---- the sites have gone on
abbrev states : (g : Over) (c : After-renew_row g) → List SiteState
states g c = site_states (held_cells c.args.cells.now.items)

many : (g : Over) (c : After-renew_row g) → vec_len c.args.cells.now ≡ length (states g c)
many g c =
    let long : length c.args.cells.now.items ≡ vec_len c.args.cells.now = search rules in
    sym (states_long (held_cells c.args.cells.now.items) ∙ (held_long c.args.cells.now.items ∙ long))

waiting_is : (g : Over) (c : After-renew_row g) → c.renew_row.new.prepared.waiting ≡ replicate (length (states g c)) false
unfolding core_definitions
waiting_is g c =
    let p = c.requires.prepared in
    let n : ℕ = length (states g c) in
    let long : length c.args.prepared.waiting ≡ n = ap length p.waiting ∙ length-replicate n true in
    ap (λ (q : PreparedValue). q.waiting) c.renew_row.ensures.prepared
    ∙ ap (first_from c.args.prepared.waiting (replicate n false)) (many g c ∙ sym long)
    ∙ from_all c.args.prepared.waiting (replicate n false) (long ∙ sym (length-replicate n false))

segments_are : (g : Over) (c : After-renew_row g) → c.renew_row.new.prepared.segments ≡ segments_of (states g c)
unfolding core_definitions
segments_are g c =
    let p = c.requires.prepared in
    ap (λ (q : PreparedValue). q.segments) c.renew_row.ensures.prepared
    ∙ ap (first_from c.args.prepared.segments (segments_of (states g c))) (many g c ∙ sym p.segments)
    ∙ from_all c.args.prepared.segments (segments_of (states g c)) (p.segments ∙ sym (length-map (states g c) (λ (y : SiteState). y.segment)))

pub closed-round-requires : goal.closed-round-requires
closed-round-requires g c =
    let e = (goal.at.closed-round-requires g c).After-renew_row in
    subst (All (λ (b : Bool). b ≡ false)) (sym (waiting_is g e)) (All-replicate (λ (b : Bool). b ≡ false) (length (states g e)) false refl)

pub returns-clause-book : goal.returns-clause-book
unfolding core_definitions
returns-clause-book g c =
    let w = g.N.ClusterNaming.workload in
    let a : Answer = plain_answer c.args.answer.now in
    let e = (goal.at.returns-clause-book g c).After-extend in
    let f = (goal.at.returns-clause-book g c).After-renew_row in
    let vs : List CellValue = cells g e in
    let b : BookState = book g e in
    let home : ℕ = c.args.answer.now.site in
    let call : CallId = called a in
    let p = c.requires.prepared in
    let same : states_of (cells_of w vs) ≡ site_states vs = states_are w vs in
    let gone : HaveGoneOn w c.args.next.now a (length vs) vs (held_cells c.renew_row.new.cells.items) c.extend.new.holder c.renew_row.new.book c.args.asker.now c.renew_row.new.asker =
    subst (λ n. HaveGoneOn w c.args.next.now a n vs (held_cells c.renew_row.new.cells.items) c.extend.new.holder c.renew_row.new.book c.args.asker.now c.renew_row.new.asker) (sym (count_is g e)) c.renew_row.ensures.gone in
    let ready = c.renew_row.ensures.prepared in
    let round : plain_round c.closed-round.result.0 ≡ record { base = b.base; segments = segments_of (site_states vs); closing = Some (closing_of w b (site_states vs) home call c.args.broken) } =
    c.closed-round.ensures.round ∙ (λ i. record {
      base = (ap (λ (q : PreparedValue). q.base) ready ∙ p.base) i;
      segments = segments_are g f i;
      closing = Some ((ap (λ (q : PreparedValue). q.closing) ready ∙ p.closing) i);
    }) in
    let rounds = ap (map plain_round) c.push_round.ensures ∙ map-append plain_round c.args.closed.now.items (c.closed-round.result.0 ∷ []) ∙ ap (λ r. map plain_round c.args.closed.now.items ++ r ∷ []) round in
    let last = c.closed-round.ensures.next ∙ ap (λ (q : PreparedValue). q.next) ready ∙ p.next in
    closed.book_again w c.args.next.now a vs (held_cells c.renew_row.new.cells.items) c.args.book.now c.extend.new.holder c.renew_row.new.book c.args.asker.now c.renew_row.new.asker
    gone c.requires.numbers (grew_same c.args.book.now c.extend.new.holder (bases_line w) (bases_line w) c.args.next.now (extended g e) refl)
    home call c.args.broken b (record { closed = map plain_round c.push_round.new.closed.items; base = c.closed-round.result.1.items; held = c.renew_row.new.book })
    c.accepted.ensures (count_is g e ∙ c.requires.count) c.requires.hand
    (subst (λ (xs : List SiteState). BreaksCall w xs home call c.args.broken) (sym same) c.requires.breaks)
    (c.requires.next ∙ p.next ∙ ap (λ (xs : List SiteState). next_base w b xs call) (sym same))
    (c.requires.answer ∙ (λ i. closing_answer (p.round i) (p.closing i)) ∙ ap (λ (xs : List SiteState). closing_answer (length b.closed) (closing_of w b xs home call c.args.broken)) (sym same))
    ((λ i. record { closed = rounds i; base = last i }) ∙ ap (λ (xs : List SiteState). after_closing w b xs home call c.args.broken) (sym same))
    refl

pub returns-clause-asked : goal.returns-clause-asked
unfolding history_definitions
returns-clause-asked g c =
    let e = (goal.at.returns-clause-asked g c).After-extend in
    let f = (goal.at.returns-clause-asked g c).After-renew_row in
    let lt : c.args.answer.now.site < length (states g f) = slice_get_within (states g f) c.args.answer.now.site c.requires.breaks.site c.requires.breaks.here in
    c.renew_row.ensures.gone.asked c.args.answer.now.site (asker_at g e) (subst (λ n. c.args.answer.now.site < n) (sym (many g f)) lt)
