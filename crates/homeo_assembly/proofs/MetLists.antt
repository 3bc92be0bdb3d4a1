-- Sites and book whose lists are found equal are in one round, and each client's answers are those to its calls in the history.
use Rattle.homeo_core.specs.Key.{definitions as core_definitions}
use Rattle.homeo_assembly.specs.Key.{definitions}
use Rattle.std.proofs.Common.{◌≡◌, ℕ, suc, ◌+◌, ◌≤◌, List, [], ◌∷◌, ◌++◌, map, length, ℤ, Some, sym, ap, subst, ◌∙◌, arith}
use Rattle.std.specs.Prelude.{All, slice_get}
use Rattle.std.proofs.lemmas.List.{length-map, length_push}
use Rattle.std.proofs.lemmas.List.Elements.{All-map, All-push, All-weaker}
use Rattle.homeo_lemmas.proofs.Places.{get_map, one_placed, All-get}
use Rattle.homeo_syntax.specs.Source as s
use Rattle.homeo_meaning.specs.Acceptance.{IsAccepted}
use Rattle.homeo_meaning.specs.Initial.{initial}
use Rattle.homeo_history.specs.Answers.{Answer, local_answer, answers_of, answers_to}
use Rattle.homeo_history.specs.History.{Round}
use Rattle.homeo_history.specs.Legal.{IsClientAt, IsAtSites, call_count}
use Rattle.homeo_history.proofs.Exists.{client_lt, all_exist, count_bound}
use Rattle.homeo_history.proofs.Lists.{get_map_back, get_end}
use Rattle.homeo_site.specs.SiteState.{SiteState, SiteHolds}
use Rattle.homeo_core.specs.Joined.{BookState, IsInRound, AreJoined, open_round, rounds_of}
use Rattle.homeo_core.proofs.Joining.{with_open}
use Rattle.homeo_core.proofs.OpenRound.{calls_at, own_local}
use Rattle.homeo_assembly.specs.Facts.{SiteFacts, BookLists, BookFacts, Cell, states_of, AreMet}
use Rattle.homeo_assembly.proofs.NumberedAnswers.{AreNumbered}

abbrev pub HaveFacts : s.Workload → List Cell → Type 0
HaveFacts w cells = All (λ c. SiteFacts w c.site c.lists) cells

module _ (w : s.Workload) (b : BookState) (l : BookLists) (cells : List Cell) (book : BookFacts w b l)
    (sites : HaveFacts w cells) (met : AreMet w l cells) where
  pub facts_at : (i : ℕ) (c : Cell) → slice_get cells i ≡ Some c → SiteFacts w c.site c.lists
  facts_at i c e = All-get (λ (x : Cell). SiteFacts w x.site x.lists) cells i c sites e

  pub state_at : (i : ℕ) (c : Cell) → slice_get cells i ≡ Some c → slice_get (states_of cells) i ≡ Some c.site
  unfolding definitions
  state_at i c e = get_map (λ (x : Cell). x.site) cells i c e

  -- ---- one round
  -- by its bases, a site is in the book's round
  pub in_round : (i : ℕ) (c : Cell) → slice_get cells i ≡ Some c → IsInRound b i c.site
  in_round i c e =
      let closed : List (List ℤ) = map (λ (r : Round). r.base) b.closed in
      let bases : List (List ℤ) = closed ++ b.base ∷ [] in
      let facts : SiteFacts w c.site c.lists = facts_at i c e in
      let lists : c.lists.at ≡ bases = met.at i c e ∙ book.bases in
      let own : length c.lists.at ≡ suc c.site.round = facts.rounds in
      let all : length c.lists.at ≡ length bases = ap length lists in
      let push : length bases ≡ length closed + 1 = length_push closed b.base in
      let place : c.site.round ≡ length closed = omega (arith, own, all, push) in
      let here : slice_get bases c.site.round ≡ Some c.site.base =
      subst (λ xs. slice_get xs c.site.round ≡ Some c.site.base) lists facts.base in
      let last : slice_get bases (length closed) ≡ Some c.site.base =
      subst (λ n. slice_get bases n ≡ Some c.site.base) place here in
      record {
        numbered = met.numbers i c e;
        round = place ∙ length-map b.closed (λ (r : Round). r.base);
        base = one_placed bases (length closed) c.site.base b.base last (get_end closed b.base);
      }

  each_in_round : (i : ℕ) (x : SiteState) → slice_get (states_of cells) i ≡ Some x → IsInRound b i x
  unfolding definitions
  each_in_round i x e =
      let cell = get_map_back (λ (c : Cell). c.site) cells i x e in subst (IsInRound b i) cell.1.1 (in_round i cell.0 cell.1.0)

  each_holds : All (λ c. SiteHolds w c.site) cells
  each_holds =
      All-weaker (λ (c : Cell). SiteFacts w c.site c.lists) (λ (c : Cell). SiteHolds w c.site) (λ c facts. facts.holds) cells
      sites

  pub joined : AreJoined w (initial w) b (states_of cells)
  unfolding definitions
  joined = record {
    book = book.holds;
    holds = All-map (SiteHolds w) (λ (c : Cell). c.site) cells each_holds;
    round = record { count = length-map cells (λ (c : Cell). c.site) ∙ met.count; each = each_in_round };
  }

  -- ---- each client's answers
  abbrev rounds : List Round
  rounds = rounds_of b (states_of cells)

  pub at_own_number :
      (client i : ℕ) (c : Cell) → IsClientAt w i client → slice_get cells i ≡ Some c → IsClientAt w c.site.number client
  at_own_number client i c own e = subst (λ n. IsClientAt w n client) (sym (met.numbers i c e)) own

  -- all that a site answered a client are the answers of the history
  pub done_is :
      IsAccepted w → (client i : ℕ) (c : Cell) → IsClientAt w i client → slice_get cells i ≡ Some c →
      c.lists.done client ≡ answers_to client (answers_of 0 rounds)
  done_is accepted client i c own e =
      let x : SiteState = c.site in
      let open_answers : List Answer = answers_to client (map (local_answer x.round x.number) x.segment) in
      ((facts_at i c e).serves client (at_own_number client i c own e)).answered
      ∙ ap (λ xs. xs ++ open_answers) (met.shut client i c own e ∙ book.kept client (client_lt w i client own))
      ∙ ap (λ xs. answers_to client (answers_of 0 b.closed) ++ xs)
      (sym (own_local w (initial w) b (states_of cells) accepted joined client i x own (state_at i c e)))
      ∙ sym (with_open b (states_of cells) client)

  pub done_numbered :
      (client i : ℕ) (c : Cell) → IsClientAt w i client → slice_get cells i ≡ Some c → AreNumbered (c.lists.done client)
  done_numbered client i c own e = ((facts_at i c e).serves client (at_own_number client i c own e)).numbered

  pub all_at_sites : IsAccepted w → All (IsAtSites w) rounds
  unfolding core_definitions
  all_at_sites accepted =
      All-push (IsAtSites w) b.closed (open_round b.base (states_of cells)) book.holds.at_sites
      (record { segments = calls_at w (initial w) b (states_of cells) accepted joined; closing = tt })

  -- a site has answered a client at most as often as the client has calls
  pub done_short :
      IsAccepted w → (client i : ℕ) (c : Cell) → IsClientAt w i client → slice_get cells i ≡ Some c →
      length (c.lists.done client) ≤ call_count w client
  done_short accepted client i c own e =
      let is : c.lists.done client ≡ answers_to client (answers_of 0 rounds) = done_is accepted client i c own e in
      let numbered : AreNumbered (answers_to client (answers_of 0 rounds)) =
      subst AreNumbered is (done_numbered client i c own e) in
      subst (λ xs. length xs ≤ call_count w client) (sym is)
      (count_bound w client (answers_of 0 rounds) (all_exist w 0 rounds (all_at_sites accepted)) numbered)
