-- Sites and book keep what they keep with a call that closes the round, and their lists are found equal again; and the book's
-- start.
use Rattle.homeo_history.specs.Key.{definitions as history_definitions}
use Rattle.homeo_site.specs.Key.{definitions as site_definitions}
use Rattle.homeo_core.specs.Key.{definitions as core_definitions}
use Rattle.homeo_assembly.specs.Key.{definitions}
use Rattle.std.proofs.Common.{◌≡◌, ℕ, ◌<◌, List, [], ◌∷◌, ◌++◌, map, length, ℤ, Some, refl, sym, ap, subst, ◌∙◌}
use Rattle.std.specs.Prelude.{IsSome, slice_get}
use Rattle.std.proofs.lemmas.List.{append-nil, map-append}
use Rattle.std.proofs.lemmas.List.Elements.{All-nil}
use Rattle.std.proofs.lemmas.Option.{slice_get_within}
use Rattle.homeo_lemmas.proofs.Places.{get_map}
use Rattle.homeo_syntax.specs.Source as s
use Rattle.homeo_meaning.specs.declared.call.CallId.{CallId}
use Rattle.homeo_meaning.specs.Acceptance.{IsAccepted}
use Rattle.homeo_meaning.specs.Initial.{initial}
use Rattle.homeo_meaning.proofs.Sound.{sound}
use Rattle.homeo_plan.specs.declared.treaty.Broken.{Broken}
use Rattle.homeo_plan.specs.Planned.{sites_of}
use Rattle.homeo_history.specs.Answers.{Answer, closing_answer, answers_of, answers_to}
use Rattle.homeo_history.specs.History.{Round}
use Rattle.homeo_history.specs.Legal.{IsClientAt, IsAtSites}
use Rattle.homeo_history.specs.Replayed.{IsReplayed}
use Rattle.homeo_history.proofs.Exists.{has_site}
use Rattle.homeo_history.proofs.Lists.{get_some, all_from_get}
use Rattle.homeo_site.specs.SiteState.{SiteState, renewed}
use Rattle.homeo_core.specs.Events.{BreaksCall, closing_of, next_base, after_closing, IsAfter}
use Rattle.homeo_core.specs.Joined.{BookState, rounds_of}
use Rattle.homeo_core.proofs.ClosingCalls.{core_cleanup}
use Rattle.homeo_core.proofs.Joining.{with_open}
use Rattle.homeo_core.proofs.OpenRound.{own_local}
use Rattle.homeo_assembly.specs.Facts.{SiteFacts, BookLists, BookFacts, Cell, states_of, AreMet}
use Rattle.homeo_assembly.specs.Events.{Closes, InHand}
use Rattle.homeo_assembly.specs.Laws.{CleanupEvent, BookStart}
use Rattle.homeo_assembly.proofs.ClientsAtSites.{client_below}
use Rattle.homeo_assembly.proofs.MetLists as met_lists
use Rattle.homeo_assembly.proofs.SiteEvents.{site_renewal}

module _ (w : s.Workload) (b : BookState) (l l' : BookLists) (cells cells' : List Cell) (home : ℕ) (call : CallId)
    (broken : Broken) (accepted : IsAccepted w) (old : InHand w b l cells)
    (event : BreaksCall w (states_of cells) home call broken)
    (new : Closes w (next_base w b (states_of cells) call)
    (closing_answer (length b.closed) (closing_of w b (states_of cells) home call broken)) cells cells' l l') where
  abbrev sites : List SiteState
  sites = states_of cells

  abbrev next : List ℤ
  next = next_base w b sites call

  abbrev a : Answer
  a = closing_answer (length b.closed) (closing_of w b sites home call broken)

  abbrev after : BookState
  after = after_closing w b sites home call broken

  abbrev begun_sites : List SiteState
  begun_sites = map (renewed next) sites

  gone_on : IsAfter w (initial w) a b after sites begun_sites
  unfolding core_definitions
  gone_on =
      core_cleanup w (initial w) b sites home call broken accepted (met_lists.joined w b l cells old.book old.sites old.met)
      event

  -- ---- the book
  -- the answers of the closed rounds to a client are those of the history before, and the closing call's
  closed_more :
      (client i : ℕ) (c : Cell) → IsClientAt w i client → slice_get cells i ≡ Some c →
      answers_to client (answers_of 0 after.closed) ≡
      answers_to client (answers_of 0 (rounds_of b sites)) ++ answers_to client (a ∷ [])
  unfolding history_definitions site_definitions core_definitions
  closed_more client i c own e =
      let closed : List Answer = answers_to client (answers_of 0 after.closed) in
      let begun_at : slice_get begun_sites i ≡ Some (renewed next c.site) =
      get_map (renewed next) sites i c.site (met_lists.state_at w b l cells old.book old.sites old.met i c e) in
      sym (append-nil closed)
      ∙ ap (λ xs. closed ++ xs)
      (sym (own_local w (initial w) after begun_sites accepted gone_on.joined client i (renewed next c.site) own begun_at))
      ∙ sym (with_open after begun_sites client) ∙ gone_on.answer client

  kept : (client : ℕ) → client < length w.clients → l'.kept client ≡ answers_to client (answers_of 0 after.closed)
  unfolding definitions
  kept client lt =
      let at = has_site w client lt in
      let i : ℕ = at.0 in
      let own : IsClientAt w i client = at.1 in
      let inside : i < length cells = subst (λ n. i < n) (sym old.met.count) (client_below w i client accepted own) in
      let cell = get_some cells i inside in
      let cell' = get_some cells' i (subst (λ n. i < n) (sym new.count) inside) in
      let c : Cell = cell.0 in
      let lists = new.lists i c cell'.0 cell.1 cell'.1 in
      let here : IsClientAt w c.site.number client =
      met_lists.at_own_number w b l cells old.book old.sites old.met client i c own cell.1 in
      new.kept i cell'.0 cell'.1 client own ∙ lists.shut client here ∙ lists.done client here
      ∙ ap (λ xs. xs ++ answers_to client (a ∷ []))
      (met_lists.done_is w b l cells old.book old.sites old.met accepted client i c own cell.1)
      ∙ sym (closed_more client i c own cell.1)

  book : BookFacts w after l'
  unfolding core_definitions
  book = record {
    holds = gone_on.joined.book;
    bases =
        new.bases ∙ ap (λ xs. xs ++ next ∷ []) old.book.bases
        ∙ ap (λ xs. xs ++ next ∷ []) (sym (map-append (λ (r : Round). r.base) b.closed _));
    kept = kept;
  }

  -- ---- the sites
  before : (i : ℕ) (c' : Cell) → slice_get cells' i ≡ Some c' → (c : Cell) × (slice_get cells i ≡ Some c)
  before i c' e = get_some cells i (subst (λ n. i < n) new.count (slice_get_within cells' i c' e))

  site_after : (i : ℕ) (c' : Cell) → slice_get cells' i ≡ Some c' → SiteFacts w c'.site c'.lists
  unfolding definitions core_definitions
  site_after i c' e =
      let was = before i c' e in
      let c : Cell = was.0 in
      let facts : SiteFacts w c.site c.lists = met_lists.facts_at w b l cells old.book old.sites old.met i c was.1 in
      subst (λ x. SiteFacts w x c'.lists) (sym (new.site i c c' was.1 e))
      (site_renewal w next c.site a c.lists c'.lists accepted gone_on.joined.book.within facts (new.lists i c c' was.1 e))

  met : AreMet w l' cells'
  unfolding definitions site_definitions
  met = record {
    count = new.count ∙ old.met.count;
    numbers = λ i c' e. let was = before i c' e in
        ap (λ (x : SiteState). x.number) (new.site i was.0 c' was.1 e) ∙ old.met.numbers i was.0 was.1;
    at = λ i c' e. let was = before i c' e in
        (new.lists i was.0 c' was.1 e).at ∙ ap (λ xs. xs ++ next ∷ []) (old.met.at i was.0 was.1) ∙ sym new.bases;
    shut = λ client i c' own e. sym (new.kept i c' e client own);
  }

  closed_in_hand : InHand w after l' cells'
  closed_in_hand =
      let sites_after = all_from_get (λ (c : Cell). SiteFacts w c.site c.lists) cells' site_after in
      record { book = book; sites = sites_after; met = met }

pub cleanup_event : CleanupEvent
unfolding definitions
cleanup_event = closed_in_hand

-- ---- the start
pub book_start : BookStart
unfolding definitions history_definitions
book_start w accepted = record {
  holds = record {
    starts = refl;
    within = (sound w accepted).starts;
    segments = All-nil (λ (r : Round). length r.segments ≡ sites_of w);
    closed = All-nil (λ (r : Round). IsSome r.closing);
    at_sites = All-nil (IsAtSites w);
    serial = tt;
    replayed = All-nil (IsReplayed w);
  };
  bases = refl;
  kept = λ client lt. refl;
}
