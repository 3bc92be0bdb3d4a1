use Rattle.homeo_history.specs.Key.{definitions as history_definitions}
use Rattle.homeo_core.specs.Key.{definitions as core_definitions}
use Rattle.std.proofs.Common.{◌≡◌, List, [], ◌∷◌, ◌++◌, None, map, length, take, sym, ap, subst, ◌∙◌, FitsSigned}
use Rattle.std.specs.Int.{w64}
use Rattle.std.specs.Prelude.{All}
use Rattle.std.proofs.lemmas.List.{length-map, map-append}
use Rattle.homeo_syntax.specs.Listed.{Listed}
use Rattle.homeo_meaning.specs.Bounds.{IsWithin}
use Rattle.homeo_meaning.specs.Initial.{initial}
use Rattle.homeo_meaning.specs.Schema.{schema_of}
use Rattle.homeo_history.specs.HistoryView.{plain_segment, plain_round, plain_history}
use Rattle.homeo_history.specs.declared.history.Round.{Round}
use Rattle.homeo_core.specs.Joined.{BookState, AreJoined, gathered, history_of, segments_of}
use Rattle.homeo_core.specs.SiteLists.{AreAt}
use Rattle.homeo_core.proofs.InRounds.{at_round}
use Rattle.homeo_cluster.specs.inner.Cells.{CellValue, BookValue, book_state}
use Rattle.homeo_cluster.specs.inner.Meets.{site_states}
use Rattle.homeo_cluster.proofs.Settles.{sums_fit, last_within}
use Rattle.homeo_cluster.proofs.frame.Frame.history.Goals as goal

pub last_database-requires-clause-at : goal.last_database-requires-clause-at
last_database-requires-clause-at g c =
    let w = g.N.ClusterNaming.workload in
    let f = c.book.inside in
    let b : BookState = record { closed = map plain_round f.closed.items; base = f.base.items } in
    let joined : AreJoined w (initial w) b (site_states c.args.cells.items) =
    subst (λ (v : BookValue). AreJoined w (initial w) (book_state v) (site_states c.args.cells.items)) (sym c.book.view_is) c.requires.joined in
    let sites : c.as_slice-2.result.now ≡ c.args.cells.items = c.as_slice-2.ensures.value in
    let round : length b.closed ≡ length c.as_slice.result.now = length-map f.closed.items plain_round ∙ sym (ap length c.as_slice.ensures) in
    subst (λ (l : List CellValue). AreAt (length c.as_slice.result.now) f.base.items (site_states l)) (sym sites)
    (subst (λ n. AreAt n f.base.items (site_states c.args.cells.items)) round (at_round w (initial w) b (site_states c.args.cells.items) joined))

pub last_database-requires-clause-fits : goal.last_database-requires-clause-fits
last_database-requires-clause-fits g c n =
    let w = g.N.ClusterNaming.workload in
    let f = c.book.inside in
    let b : BookState = record { closed = map plain_round f.closed.items; base = f.base.items } in
    let joined : AreJoined w (initial w) b (site_states c.args.cells.items) =
    subst (λ (v : BookValue). AreJoined w (initial w) (book_state v) (site_states c.args.cells.items)) (sym c.book.view_is) c.requires.joined in
    let sites : c.as_slice-2.result.now ≡ c.args.cells.items = c.as_slice-2.ensures.value in
    subst (λ (l : List CellValue). All (FitsSigned w64) (gathered f.base.items (take n (site_states l)))) (sym sites)
    (sums_fit w b (site_states c.args.cells.items) c.accepted.ensures joined n)

pub returns-clause-history : goal.returns-clause-history
unfolding history_definitions core_definitions
returns-clause-history g c =
    let f = c.book.inside in
    let sites : c.as_slice-2.result.now ≡ c.args.cells.items = c.as_slice-2.ensures.value in
    let rounds : c.push.new.self.items ≡ f.closed.items ++ record { base = f.base; segments = c.in_ok-segments.segments; closing = None } ∷ [] = ap (λ (l : Listed Round). l.items) c.in_ok-push.ensures.ok in
    let segments : map plain_segment c.in_ok-segments.segments.items ≡ segments_of (site_states c.args.cells.items) = c.in_ok-segments.ensures in
    let last : c.in_ok-last.last.items ≡ gathered f.base.items (site_states c.args.cells.items) = c.in_ok-last.ensures ∙ ap (λ (l : List CellValue). gathered f.base.items (site_states l)) sites in
    let history : plain_history (record { rounds = c.push.new.self; last = c.in_ok-last.last }) ≡ history_of (record { closed = map plain_round f.closed.items; base = f.base.items }) (site_states c.args.cells.items) =
    (λ j. record {
      rounds = (ap (map plain_round) rounds ∙ map-append plain_round f.closed.items (record { base = f.base; segments = c.in_ok-segments.segments; closing = None } ∷ []) ∙ (λ k. map plain_round f.closed.items ++ record { base = f.base.items; segments = segments k; closing = None } ∷ [])) j;
      last = last j;
    }) in
    history ∙ ap (λ (v : BookValue). history_of (book_state v) (site_states c.args.cells.items)) c.book.view_is

pub returns-clause-within : goal.returns-clause-within
unfolding history_definitions
returns-clause-within g c =
    let w = g.N.ClusterNaming.workload in
    let f = c.book.inside in
    let b : BookState = record { closed = map plain_round f.closed.items; base = f.base.items } in
    let joined : AreJoined w (initial w) b (site_states c.args.cells.items) =
    subst (λ (v : BookValue). AreJoined w (initial w) (book_state v) (site_states c.args.cells.items)) (sym c.book.view_is) c.requires.joined in
    let sites : c.as_slice-2.result.now ≡ c.args.cells.items = c.as_slice-2.ensures.value in
    let last : c.in_ok-last.last.items ≡ gathered f.base.items (site_states c.args.cells.items) = c.in_ok-last.ensures ∙ ap (λ (l : List CellValue). gathered f.base.items (site_states l)) sites in
    subst (IsWithin (schema_of w)) (sym last) (last_within w b (site_states c.args.cells.items) c.accepted.ensures joined)
