-- A call that closes the round keeps what closed rounds and sites hold, and adds its answer to the history's.
use Rattle.homeo_history.specs.Key.{definitions as history_definitions}
use Rattle.homeo_site.specs.Key.{definitions as site_definitions}
use Rattle.homeo_core.specs.Key.{definitions}
use Rattle.std.proofs.Common.{◌≡◌, ℕ, suc, ◌+◌, ◌<◌, List, [], ◌∷◌, ◌++◌, map, length, ℤ, Some, refl, sym, ap, subst, ◌∙◌, arith, append_assoc}
use Rattle.std.specs.Prelude.{IsSome, slice_get}
use Rattle.std.proofs.lemmas.List.{append-nil, length-map, length_push}
use Rattle.std.proofs.lemmas.List.Elements.{All-push}
use Rattle.std.proofs.lemmas.Option.{slice_get_within}
use Rattle.homeo_syntax.specs.Source as s
use Rattle.homeo_meaning.specs.declared.call.CallId.{CallId}
use Rattle.homeo_meaning.specs.Acceptance.{IsAccepted}
use Rattle.homeo_meaning.specs.Bounds.{IsWithin}
use Rattle.homeo_meaning.specs.Schema.{schema_of}
use Rattle.homeo_meaning.specs.Serial.{values_of}
use Rattle.homeo_plan.specs.declared.treaty.Broken.{Broken}
use Rattle.homeo_plan.specs.Joined.{Deltas}
use Rattle.homeo_plan.specs.Local.{no_deltas}
use Rattle.homeo_plan.specs.Planned.{sites_of}
use Rattle.homeo_history.specs.Answers.{Answer, closing_answer, local_answers, answers_of_round, answers_of, answers_to}
use Rattle.homeo_history.specs.History.{Entry, Round}
use Rattle.homeo_history.specs.Legal.{IsAtSites, HasMerges, RunsTo}
use Rattle.homeo_history.specs.Merge.{segment_of}
use Rattle.homeo_history.specs.Replayed.{deltas_after, end_of, finding_at, IsReplayed}
use Rattle.homeo_history.proofs.AnswerLists.{answers_to_more, answers_of_end}
use Rattle.homeo_history.proofs.CallRuns.{call_runs}
use Rattle.homeo_history.proofs.Lists.{get_map_back, all_from_get}
use Rattle.homeo_history.proofs.Rounds.{serial_end, base_or_end}
use Rattle.homeo_site.specs.SiteState.{SiteState, SiteHolds, renewed}
use Rattle.homeo_site.proofs.SitesHold.{begun_holds}
use Rattle.homeo_core.specs.Joined.{BookState, BookHolds, IsInRound, AreJoined, segments_of, gathered, rounds_of}
use Rattle.homeo_core.specs.Events.{BreaksCall, closing_of, closed_round, next_base, after_closing, IsAfter}
use Rattle.homeo_core.specs.Laws.{CoreCleanup}
use Rattle.homeo_core.proofs.Joining.{with_open}
use Rattle.homeo_core.proofs.OpenRound as open_round_facts

none_open : (client round k : ℕ) (base : List ℤ) (sites : List SiteState) → answers_to client (local_answers round k (segments_of (map (renewed base) sites))) ≡ []
unfolding definitions history_definitions site_definitions
none_open client round k base [] = refl
none_open client round k base (x ∷ sites) = none_open client round (suc k) base sites

module _ (w : s.Workload) (start : List ℤ) (b : BookState) (sites : List SiteState) (home : ℕ) (call : CallId) (broken : Broken) (accepted : IsAccepted w) (joined : AreJoined w start b sites) (event : BreaksCall w sites home call broken) where
  abbrev next : List ℤ
  next = next_base w b sites call

  abbrev round : Round
  round = closed_round w b sites home call broken

  abbrev a : Answer
  a = closing_answer (length b.closed) (closing_of w b sites home call broken)

  pub next_within : IsWithin (schema_of w) next
  unfolding definitions
  next_within = (call_runs w call (gathered b.base sites) event.at_site.exists (open_round_facts.whole_within w start b sites accepted joined)).within

  merges : HasMerges w round (gathered b.base sites)
  unfolding definitions
  merges =
      let same = open_round_facts.merges w start b sites accepted joined in
      record { prints = same.prints; database = same.database }

  replayed : IsReplayed w round
  unfolding definitions history_definitions site_definitions
  replayed =
      let x : SiteState = event.site in
      let at = joined.round.each home x event.here in
      let segment : segment_of (segments_of sites) home ≡ x.segment = open_round_facts.segment_at sites home x event.here in
      let ends : end_of w b.base x.segment no_deltas ≡ values_of x.deltas = open_round_facts.end_at w start b sites accepted joined home x event.here in
      let found : finding_at w b.base home (deltas_after w b.base call (values_of x.deltas)) ≡ Some broken = subst (λ d. finding_at w d home (deltas_after w d call (values_of x.deltas)) ≡ Some broken) at.base (subst (λ n. finding_at w x.base n (deltas_after w x.base call (values_of x.deltas)) ≡ Some broken) at.numbered event.breaks) in record {
        segments = open_round_facts.keeps_at w start b sites accepted joined;
        closing =
            ap (λ (es : List Entry). finding_at w b.base home (deltas_after w b.base call (end_of w b.base es no_deltas))) segment
            ∙ ap (λ (d : Deltas). finding_at w b.base home (deltas_after w b.base call d)) ends ∙ found;
      }

  runs : RunsTo w round next
  unfolding definitions history_definitions
  runs = record { after = gathered b.base sites; merges = merges; closes = refl }

  book_holds : BookHolds w start (after_closing w b sites home call broken)
  unfolding definitions
  book_holds = record {
    starts = base_or_end b.closed round next ∙ joined.book.starts;
    within = next_within;
    segments = All-push (λ (r : Round). length r.segments ≡ sites_of w) b.closed round joined.book.segments (open_round_facts.count_is w start b sites accepted joined);
    closed = All-push (λ (r : Round). IsSome r.closing) b.closed round joined.book.closed refl;
    at_sites = All-push (IsAtSites w) b.closed round joined.book.at_sites (record { segments = open_round_facts.calls_at w start b sites accepted joined; closing = event.at_site });
    serial = serial_end w b.closed round next joined.book.serial runs;
    replayed = All-push (IsReplayed w) b.closed round joined.book.replayed replayed;
  }

  -- the answers of the closed rounds to a client are those of the history before, and the closing call's
  closed_more : (client : ℕ) → answers_to client (answers_of 0 (b.closed ++ round ∷ [])) ≡ answers_to client (answers_of 0 (rounds_of b sites)) ++ answers_to client (a ∷ [])
  unfolding definitions history_definitions
  closed_more client =
      let number : 0 + length b.closed ≡ length b.closed = omega arith in
      ap (answers_to client) (answers_of_end 0 b.closed round)
      ∙ answers_to_more client (answers_of 0 b.closed) (answers_of_round (0 + length b.closed) round)
      ∙ ap (λ n. answers_to client (answers_of 0 b.closed) ++ answers_to client (answers_of_round n round)) number
      ∙ ap (λ xs. answers_to client (answers_of 0 b.closed) ++ xs) (answers_to_more client (local_answers (length b.closed) 0 (segments_of sites)) (a ∷ []))
      ∙ sym (append_assoc (answers_to client (answers_of 0 b.closed)) (answers_to client (local_answers (length b.closed) 0 (segments_of sites))) (answers_to client (a ∷ [])))
      ∙ ap (λ xs. xs ++ answers_to client (a ∷ [])) (sym (with_open b sites client))

  renewed_holds : (i : ℕ) (x : SiteState) → slice_get sites i ≡ Some x → SiteHolds w (renewed next x)
  unfolding site_definitions
  renewed_holds i x e =
      let lt : i < sites_of w = subst (λ n. i < n) joined.round.count (slice_get_within sites i x e) in
      begun_holds w x.number (suc x.round) next accepted (subst (λ n. n < sites_of w) (sym (joined.round.each i x e).numbered) lt) next_within

  renewed_in : (i : ℕ) (x : SiteState) → slice_get sites i ≡ Some x → IsInRound (after_closing w b sites home call broken) i (renewed next x)
  unfolding definitions site_definitions
  renewed_in i x e =
      let at = joined.round.each i x e in
      let long : length (b.closed ++ round ∷ []) ≡ length b.closed + 1 = length_push b.closed round in
      let old : x.round ≡ length b.closed = at.round in
      record { numbered = at.numbered; round = omega (arith, long, old); base = refl }

  after_call : IsAfter w start a b (after_closing w b sites home call broken) sites (map (renewed next) sites)
  unfolding definitions history_definitions
  after_call = record {
    joined = record {
      book = book_holds;
      holds = all_from_get (SiteHolds w) (map (renewed next) sites) (λ i y e. let was = get_map_back (renewed next) sites i y e in
          subst (SiteHolds w) was.1.1 (renewed_holds i was.0 was.1.0));
      round = record {
        count = length-map sites (renewed next) ∙ joined.round.count;
        each = λ i y e. let was = get_map_back (renewed next) sites i y e in
            subst (IsInRound (after_closing w b sites home call broken) i) was.1.1 (renewed_in i was.0 was.1.0);
      };
    };
    answer = λ client.
        with_open (after_closing w b sites home call broken) (map (renewed next) sites) client
        ∙ ap (λ xs. answers_to client (answers_of 0 (b.closed ++ round ∷ [])) ++ xs) (none_open client (length (b.closed ++ round ∷ [])) 0 next sites)
        ∙ append-nil (answers_to client (answers_of 0 (b.closed ++ round ∷ [])))
        ∙ closed_more client;
  }

pub core_cleanup : CoreCleanup
unfolding definitions
core_cleanup = after_call
