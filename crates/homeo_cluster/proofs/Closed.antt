-- The round is closed: sites and book hold again, over plain data.
use Rattle.homeo_assembly.specs.Key.{definitions}
use Rattle.homeo_site.specs.Key.{definitions as site_definitions}
use Rattle.std.proofs.Common.{◌≡◌, ℕ, ◌<◌, List, [], ◌∷◌, ◌++◌, length, Some, sym, ap, subst, ◌∙◌}
use Rattle.std.specs.Prelude.{ℤ, slice_get}
use Rattle.std.proofs.lemmas.List.{length-map}
use Rattle.std.proofs.lemmas.Option.{slice_get_within}
use Rattle.homeo_notes.specs.Lines.{Held, list_at}
use Rattle.homeo_syntax.specs.Source as s
use Rattle.homeo_meaning.specs.Acceptance.{IsAccepted}
use Rattle.homeo_meaning.specs.declared.call.CallId.{CallId}
use Rattle.homeo_plan.specs.declared.treaty.Broken.{Broken}
use Rattle.homeo_plan.specs.Planned.{sites_of}
use Rattle.homeo_history.specs.Answers.{Answer, closing_answer}
use Rattle.homeo_history.specs.Legal.{IsClientAt}
use Rattle.homeo_history.proofs.Lists.{get_some, get_map_back}
use Rattle.homeo_site.specs.SiteState.{SiteState, renewed}
use Rattle.homeo_core.specs.Events.{BreaksCall, closing_of, next_base, after_closing}
use Rattle.homeo_core.specs.Joined.{BookState}
use Rattle.homeo_assembly.specs.Events.{Renews, Closes, InHand}
use Rattle.homeo_assembly.specs.Facts.{Cell, BookFacts, states_of}
use Rattle.homeo_assembly.proofs.ClosingEvents.{cleanup_event}
use Rattle.homeo_cluster.specs.inner.Cells.{CellValue, BookValue, IsBook, book_state, book_lists, cell_of, cells_of, site_lists}
use Rattle.homeo_cluster.specs.Places.{bases_line}
use Rattle.homeo_cluster.specs.inner.Meets.{AreNumbered}
use Rattle.homeo_cluster.specs.inner.Rows.{HasGoneOn, HaveGoneOn}

module _ (w : s.Workload) (next : List ℤ) (a : Answer) (before now : List CellValue) (bb b0 b p0 p : Held)
    (gone : HaveGoneOn w next a (length before) before now b0 b p0 p) (numbers : AreNumbered before)
    (ahead : list_at b0 (bases_line w) ≡ list_at bb (bases_line w) ++ next ∷ []) where
  -- a site before and after
  one : (i : ℕ) (v v' : CellValue) → slice_get before i ≡ Some v → slice_get now i ≡ Some v' → HasGoneOn w next a i v v' b
  one i v v' e e' = gone.done i v v' (slice_get_within before i v e) e e'

  number_of : (i : ℕ) (v v' : CellValue) → slice_get before i ≡ Some v → slice_get now i ≡ Some v' → v'.site.state.number ≡ i
  unfolding site_definitions
  number_of i v v' e e' = ap (λ (x : SiteState). x.number) (one i v v' e e').state ∙ numbers i v e

  site_is : (i : ℕ) (c c' : Cell) → slice_get (cells_of w before) i ≡ Some c → slice_get (cells_of w now) i ≡ Some c' → c'.site ≡ renewed next c.site
  site_is i c c' e e' =
      let v = get_map_back (cell_of w) before i c e in
      let v' = get_map_back (cell_of w) now i c' e' in
      ap (λ (k : Cell). k.site) (sym v'.1.1) ∙ (one i v.0 v'.0 v.1.0 v'.1.0).state ∙ ap (λ (k : Cell). renewed next k.site) v.1.1

  lists_are : (i : ℕ) (c c' : Cell) → slice_get (cells_of w before) i ≡ Some c → slice_get (cells_of w now) i ≡ Some c' → Renews w next c.site a c.lists c'.lists
  lists_are i c c' e e' =
      let v = get_map_back (cell_of w) before i c e in
      let v' = get_map_back (cell_of w) now i c' e' in
      let h = one i v.0 v'.0 v.1.0 v'.1.0 in
      subst (λ (k : Cell). Renews w next k.site a k.lists c'.lists) v.1.1
      (subst (λ (k : Cell). Renews w next v.0.site.state a (site_lists w v.0.site.state.number v.0.held) k.lists) v'.1.1
      (subst (λ n. Renews w next v.0.site.state a (site_lists w n v.0.held) (site_lists w v'.0.site.state.number v'.0.held)) (sym (numbers i v.0 v.1.0))
      (subst (λ n. Renews w next v.0.site.state a (site_lists w i v.0.held) (site_lists w n v'.0.held)) (sym (number_of i v.0 v'.0 v.1.0 v'.1.0)) h.lists)))

  kept_is : (i : ℕ) (c' : Cell) → slice_get (cells_of w now) i ≡ Some c' → (client : ℕ) → IsClientAt w i client → (book_lists w b).kept client ≡ c'.lists.shut client
  kept_is i c' e' client at =
      let v' = get_map_back (cell_of w) now i c' e' in
      let v = get_some before i (subst (λ n. i < n) gone.count (slice_get_within now i v'.0 v'.1.0)) in
      sym ((one i v.0 v'.0 v.1 v'.1.0).pairs client at) ∙ ap (λ (k : Cell). k.lists.shut client) v'.1.1

  pub closes : Closes w next a (cells_of w before) (cells_of w now) (book_lists w bb) (book_lists w b)
  unfolding definitions
  closes = record {
    count = length-map now (cell_of w) ∙ gone.count ∙ sym (length-map before (cell_of w));
    bases = gone.bases ∙ ahead;
    site = site_is;
    lists = lists_are;
    kept = kept_is;
  }

  pub book_again : (home : ℕ) (call : CallId) (broken : Broken) (old : BookState) (new : BookValue) → IsAccepted w → length before ≡ sites_of w
      → InHand w old (book_lists w bb) (cells_of w before) → BreaksCall w (states_of (cells_of w before)) home call broken
      → next ≡ next_base w old (states_of (cells_of w before)) call
      → a ≡ closing_answer (length old.closed) (closing_of w old (states_of (cells_of w before)) home call broken)
      → book_state new ≡ after_closing w old (states_of (cells_of w before)) home call broken → new.held ≡ b → IsBook w new
  unfolding definitions
  book_again home call broken old new accepted count hand breaks is_next is_answer state held =
      let after = cleanup_event w old (book_lists w bb) (book_lists w b) (cells_of w before) (cells_of w now) home call broken accepted hand breaks
      (subst (λ (x : List ℤ × Answer). Closes w x.0 x.1 (cells_of w before) (cells_of w now) (book_lists w bb) (book_lists w b)) (λ i. (is_next i, is_answer i)) closes) in
      subst (λ h. IsBook w (record { closed = new.closed; base = new.base; held = h })) (sym held) (record {
        facts = subst (λ (x : BookState). BookFacts w x (book_lists w b)) (sym state) after.book;
        holds = record {
          owns = gone.book.owns;
          seen = λ site lt.
              let v = get_some before site (subst (λ n. site < n) (sym count) lt) in
              let v' = get_some now site (subst (λ n. site < n) (sym gone.count) (slice_get_within before site v.0 v.1)) in
              (one site v.0 v'.0 v.1 v'.1).told;
          each = gone.book.each;
        };
      })
