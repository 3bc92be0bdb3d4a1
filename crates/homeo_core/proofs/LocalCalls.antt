-- A local call keeps what closed rounds and sites hold, and adds its answer to the history's.
use Rattle.homeo_history.specs.Key.{definitions as history_definitions}
use Rattle.homeo_site.specs.Key.{definitions as site_definitions}
use Rattle.homeo_core.specs.Key.{definitions}
use Rattle.std.proofs.Common.{◌≡◌, ℕ, List, [], ◌∷◌, ◌++◌, map, length, ℤ, Bool, true, false, eqb, Some, refl, sym, ap, subst, ◌∙◌, append_assoc}
use Rattle.std.specs.Prelude.{slice_get, slice_set}
use mathlib.Core.Logic.{⊎_elim}
use Rattle.std.proofs.lemmas.List.{append-nil}
use Rattle.std.proofs.lemmas.Bool.{eqb-true}
use Rattle.homeo_lemmas.proofs.Places.{All-get}
use Rattle.homeo_syntax.specs.Source as s
use Rattle.homeo_meaning.specs.declared.call.CallId.{CallId}
use Rattle.homeo_meaning.specs.Acceptance.{IsAccepted}
use Rattle.homeo_history.specs.Answers.{local_answer, local_answers, answers_of, answers_to}
use Rattle.homeo_history.specs.History.{Entry}
use Rattle.homeo_history.specs.Legal.{IsClientAt, IsCallAt}
use Rattle.homeo_history.proofs.ClientAnswers.{client_at}
use Rattle.homeo_history.proofs.Lists.{get_set_same, set_cases, length_set, all_from_get}
use Rattle.homeo_site.specs.SiteState.{SiteState, SiteHolds, KeepsCall, local_entry, after_local}
use Rattle.homeo_site.proofs.SitesHold.{local_holds}
use Rattle.homeo_core.specs.Joined.{BookState, IsInRound, AreJoined, segments_of}
use Rattle.homeo_core.specs.Events.{IsAfter}
use Rattle.homeo_core.specs.Laws.{CoreLocal}
use Rattle.homeo_core.proofs.Joining.{with_open}
use Rattle.homeo_core.proofs.OneAnswer.{not_same, not_to, others_stay, one_more_entry}
use Rattle.homeo_core.proofs.OpenRound.{own_local}

module _ (w : s.Workload) (start : List ℤ) (b : BookState) (sites : List SiteState) (home : ℕ) (x : SiteState) (call : CallId) (accepted : IsAccepted w) (joined : AreJoined w start b sites) (here : slice_get sites home ≡ Some x) (at_site : IsCallAt w home call) (keeps : KeepsCall w x call) where
  abbrev y : SiteState
  y = after_local w x call

  abbrev entry : Entry
  entry = local_entry w x call

  after_is_in : IsInRound b home y
  unfolding site_definitions
  after_is_in =
      let at = joined.round.each home x here in record { numbered = at.numbered; round = at.round; base = at.base }

  after_holds : SiteHolds w y
  after_holds =
      local_holds w x call accepted (All-get (SiteHolds w) sites home x joined.holds here) (subst (λ n. IsCallAt w n call) (sym (joined.round.each home x here).numbered) at_site) keeps

  local_joined : AreJoined w start b (slice_set sites home y)
  local_joined = record {
    book = joined.book;
    holds = all_from_get (SiteHolds w) (slice_set sites home y) (λ i z e. ⊎_elim (λ h. subst (SiteHolds w) h.1 after_holds) (λ h. All-get (SiteHolds w) sites i z joined.holds h) (set_cases sites home i y z e));
    round = record {
      count = length_set sites home y ∙ joined.round.count;
      each = λ i z e. ⊎_elim (λ h. subst (λ n. IsInRound b n z) (sym h.0) (subst (IsInRound b home) h.1 after_is_in)) (λ h. joined.round.each i z h) (set_cases sites home i y z e);
    };
  }

  local_more : (client : ℕ) (t : Bool) → eqb call.client client ≡ t → answers_to client (local_answers (length b.closed) 0 (segments_of (slice_set sites home y))) ≡ answers_to client (local_answers (length b.closed) 0 (segments_of sites)) ++ answers_to client (local_answer (length b.closed) home entry ∷ [])
  unfolding history_definitions site_definitions
  local_more client true e =
      let at = joined.round.each home x here in
      let own : IsClientAt w home client = subst (IsClientAt w home) (eqb-true call.client client e) (client_at w call home at_site.at_site) in
      own_local w start b (slice_set sites home y) accepted local_joined client home y own (get_set_same sites home x y here)
      ∙ one_more_entry client x.round x.number x.segment entry
      ∙ ap (λ xs. xs ++ answers_to client (local_answer x.round x.number entry ∷ [])) (sym (own_local w start b sites accepted joined client home x own here))
      ∙ ap (λ n. answers_to client (local_answers (length b.closed) 0 (segments_of sites)) ++ answers_to client (local_answer n x.number entry ∷ [])) at.round
      ∙ ap (λ n. answers_to client (local_answers (length b.closed) 0 (segments_of sites)) ++ answers_to client (local_answer (length b.closed) n entry ∷ [])) at.numbered
  local_more client false e =
      let other : call.client ≡ client → ⊥ = λ h. not_same call.client client h e in
      others_stay client (length b.closed) 0 home sites x y here (λ site. one_more_entry client (length b.closed) site x.segment entry ∙ ap (λ xs. answers_to client (map (local_answer (length b.closed) site) x.segment) ++ xs) (not_to client (local_answer (length b.closed) site entry) other) ∙ append-nil (answers_to client (map (local_answer (length b.closed) site) x.segment)))
      ∙ sym (append-nil (answers_to client (local_answers (length b.closed) 0 (segments_of sites))))
      ∙ ap (λ xs. answers_to client (local_answers (length b.closed) 0 (segments_of sites)) ++ xs) (sym (not_to client (local_answer (length b.closed) home entry) other))

  after_call : IsAfter w start (local_answer (length b.closed) home entry) b b sites (slice_set sites home y)
  unfolding definitions
  after_call = record {
    joined = local_joined;
    answer = λ client.
        with_open b (slice_set sites home y) client
        ∙ ap (λ xs. answers_to client (answers_of 0 b.closed) ++ xs) (local_more client (eqb call.client client) refl)
        ∙ sym (append_assoc (answers_to client (answers_of 0 b.closed)) (answers_to client (local_answers (length b.closed) 0 (segments_of sites))) (answers_to client (local_answer (length b.closed) home entry ∷ [])))
        ∙ ap (λ xs. xs ++ answers_to client (local_answer (length b.closed) home entry ∷ [])) (sym (with_open b sites client));
  }

pub core_local : CoreLocal
unfolding definitions
core_local = after_call
