-- Closed rounds and sites in one round: the open round has the sites' facts, and what it leaves is gathered from them.
use Rattle.homeo_plan.specs.Key.{definitions as plan_definitions}
use Rattle.homeo_history.specs.Key.{definitions as history_definitions}
use Rattle.homeo_core.specs.Key.{definitions}
use Rattle.std.proofs.Common.{◌≡◌, ℕ, zero, suc, ◌≤◌, List, [], ◌∷◌, map, length, take, ℤ, Some, refl, sym, ap, subst, ◌∙◌, arith}
use Rattle.std.specs.Prelude.{All, slice_get}
use Rattle.std.proofs.lemmas.List.{length-map}
use Rattle.std.proofs.lemmas.List.Elements.{All-nil, All-cons}
use Rattle.homeo_lemmas.proofs.Places.{get_map, All-get}
use Rattle.homeo_syntax.specs.Source as s
use Rattle.homeo_meaning.specs.Acceptance.{IsAccepted}
use Rattle.homeo_meaning.specs.Bounds.{IsWithin}
use Rattle.homeo_meaning.specs.Schema.{schema_of}
use Rattle.homeo_meaning.specs.Serial.{values_of}
use Rattle.homeo_plan.specs.Joined.{Deltas}
use Rattle.homeo_plan.specs.Local.{no_deltas}
use Rattle.homeo_plan.specs.Planned.{sites_of}
use Rattle.homeo_history.specs.Answers.{local_answer, local_answers, answers_to}
use Rattle.homeo_history.specs.History.{Entry, Round}
use Rattle.homeo_history.specs.Laws.{HasSegments}
use Rattle.homeo_history.specs.Legal.{IsClientAt, IsCallAt, HasMerges}
use Rattle.homeo_history.specs.Merge.{segment_of}
use Rattle.homeo_history.specs.Replayed.{end_of, KeepsAll, site_end, fold_of}
use Rattle.homeo_history.proofs.ClientAnswers.{at_own_site}
use Rattle.homeo_history.proofs.Folds.{fold_within}
use Rattle.homeo_history.proofs.Lists.{get_index}
use Rattle.homeo_history.proofs.Merges.{merge_law}
use Rattle.homeo_site.specs.SiteState.{SiteState, SiteHolds}
use Rattle.homeo_core.specs.Joined.{BookState, AreJoined, segments_of, open_round, gathered}
use Rattle.homeo_core.proofs.Gathered.{AreAsLong, deltas_at, gathered_is}

-- what is true of the empty segment and of each site's is true of the segment of each number
pub each_segment : (P : ℕ → List Entry → Type 0) (sites : List SiteState) → ((i : ℕ) → P i []) → ((i : ℕ) (x : SiteState) → slice_get sites i ≡ Some x → P i x.segment) → (i : ℕ) → P i (segment_of (segments_of sites) i)
unfolding history_definitions definitions
each_segment P [] none one i = none i
each_segment P (x ∷ sites) none one zero = one 0 x refl
each_segment P (x ∷ sites) none one (suc i) =
    each_segment (λ j. P (suc j)) sites (λ j. none (suc j)) (λ j y e. one (suc j) y e) i

pub segment_at : (sites : List SiteState) (i : ℕ) (x : SiteState) → slice_get sites i ≡ Some x → segment_of (segments_of sites) i ≡ x.segment
unfolding history_definitions definitions
segment_at sites i x e = get_index (segments_of sites) i x.segment [] (get_map (λ (y : SiteState). y.segment) sites i x e)

-- ---- the first sites
-- as many of the first sites as a number says: a shorter list's entries are the longer one's
first_is : (sites : List SiteState) (n i : ℕ) (x : SiteState) → slice_get (take n sites) i ≡ Some x → slice_get sites i ≡ Some x
first_is [] zero i x e = absurd (cc)
first_is [] (suc n) i x e = absurd (cc)
first_is (y ∷ sites) zero i x e = absurd (cc)
first_is (y ∷ sites) (suc n) zero x e = e
first_is (y ∷ sites) (suc n) (suc i) x e = first_is sites n i x e

first_few : (sites : List SiteState) (n : ℕ) → length (take n sites) ≤ length sites
first_few [] zero = omega arith
first_few [] (suc n) = omega arith
first_few (y ∷ sites) zero = omega arith
first_few (y ∷ sites) (suc n) = let h = first_few sites n in omega (arith, h)

-- where each segment's replay ends with its site's deltas
ends_are : (f : List Entry → Deltas) (sites : List SiteState) → f [] ≡ no_deltas → ((i : ℕ) (x : SiteState) → slice_get sites i ≡ Some x → f x.segment ≡ values_of x.deltas) → (i : ℕ) → f (segment_of (segments_of sites) i) ≡ deltas_at sites i
unfolding history_definitions definitions plan_definitions
ends_are f [] start each i = start
ends_are f (x ∷ sites) start each zero = each 0 x refl
ends_are f (x ∷ sites) start each (suc i) = ends_are f sites start (λ j y e. each (suc j) y e) i

long_from : (base : List ℤ) (sites : List SiteState) → ((i : ℕ) (x : SiteState) → slice_get sites i ≡ Some x → length x.deltas ≡ length base) → AreAsLong base sites
long_from base [] each = All-nil (λ (x : SiteState). length x.deltas ≡ length base)
long_from base (x ∷ sites) each =
    All-cons (λ (y : SiteState). length y.deltas ≡ length base) x sites (each 0 x refl) (long_from base sites (λ j y e. each (suc j) y e))

module _ (w : s.Workload) (start : List ℤ) (b : BookState) (sites : List SiteState) (accepted : IsAccepted w) (joined : AreJoined w start b sites) where
  pub holds_at : (i : ℕ) (x : SiteState) → slice_get sites i ≡ Some x → SiteHolds w x
  holds_at i x e = All-get (SiteHolds w) sites i x joined.holds e

  calls_here : (i : ℕ) (x : SiteState) → slice_get sites i ≡ Some x → All (λ e. IsCallAt w i e.call) x.segment
  calls_here i x e =
      subst (λ n. All (λ y. IsCallAt w n y.call) x.segment) (joined.round.each i x e).numbered (holds_at i x e).calls

  keeps_here : (i : ℕ) (x : SiteState) → slice_get sites i ≡ Some x → KeepsAll w b.base i no_deltas x.segment
  keeps_here i x e =
      let at = joined.round.each i x e in
      subst (λ y. KeepsAll w y i no_deltas x.segment) at.base (subst (λ n. KeepsAll w x.base n no_deltas x.segment) at.numbered (holds_at i x e).keeps)

  pub end_at : (i : ℕ) (x : SiteState) → slice_get sites i ≡ Some x → end_of w b.base x.segment no_deltas ≡ values_of x.deltas
  end_at i x e =
      subst (λ y. end_of w y x.segment no_deltas ≡ values_of x.deltas) (joined.round.each i x e).base (holds_at i x e).replays

  long_at : (i : ℕ) (x : SiteState) → slice_get sites i ≡ Some x → length x.deltas ≡ length b.base
  long_at i x e = (holds_at i x e).count ∙ ap length (joined.round.each i x e).base

  -- ---- the round of the first sites, as it stands
  module _ (n : ℕ) where
    abbrev some : List SiteState
    some = take n sites

    abbrev first_round : Round
    first_round = open_round b.base some

    first_segments : HasSegments w first_round
    unfolding definitions history_definitions
    first_segments = record {
      at_sites =
          each_segment (λ i es. All (λ e. IsCallAt w i e.call) es) some (λ i. All-nil (λ (e : Entry). IsCallAt w i e.call)) (λ i x e. calls_here i x (first_is sites n i x e));
      replayed = each_segment (λ i es. KeepsAll w b.base i no_deltas es) some (λ i. tt) (λ i x e. keeps_here i x (first_is sites n i x e));
    }

    first_fold : fold_of w first_round ≡ gathered b.base some
    unfolding definitions history_definitions plan_definitions
    first_fold =
        gathered_is b.base some (sites_of w) (site_end w first_round) (long_from b.base some (λ i x e. long_at i x (first_is sites n i x e))) (subst (λ k. length some ≤ k) joined.round.count (first_few sites n)) (ends_are (λ es. end_of w b.base es no_deltas) some refl (λ i x e. end_at i x (first_is sites n i x e)))

    pub first_within : IsWithin (schema_of w) (gathered b.base some)
    unfolding definitions
    first_within = subst (IsWithin (schema_of w)) first_fold (fold_within w first_round accepted joined.book.within first_segments)

  -- ---- the round of all sites
  pub calls_at : (site : ℕ) → All (λ e. IsCallAt w site e.call) (segment_of (segments_of sites) site)
  calls_at = each_segment (λ i es. All (λ e. IsCallAt w i e.call) es) sites (λ i. All-nil (λ (e : Entry). IsCallAt w i e.call)) calls_here

  pub keeps_at : (site : ℕ) → KeepsAll w b.base site no_deltas (segment_of (segments_of sites) site)
  unfolding history_definitions
  keeps_at = each_segment (λ i es. KeepsAll w b.base i no_deltas es) sites (λ i. tt) keeps_here

  has_segments : HasSegments w (open_round b.base sites)
  unfolding definitions
  has_segments = record { at_sites = calls_at; replayed = keeps_at }

  pub count_is : length (segments_of sites) ≡ sites_of w
  unfolding definitions
  count_is = length-map sites (λ (x : SiteState). x.segment) ∙ joined.round.count

  whole_fold : fold_of w (open_round b.base sites) ≡ gathered b.base sites
  unfolding definitions history_definitions plan_definitions
  whole_fold =
      gathered_is b.base sites (sites_of w) (site_end w (open_round b.base sites)) (long_from b.base sites long_at) (omega (arith, joined.round.count)) (ends_are (λ es. end_of w b.base es no_deltas) sites refl end_at)

  pub merges : HasMerges w (open_round b.base sites) (gathered b.base sites)
  unfolding definitions
  merges = subst (HasMerges w (open_round b.base sites)) whole_fold (merge_law w (open_round b.base sites) accepted joined.book.within has_segments)

  pub whole_within : IsWithin (schema_of w) (gathered b.base sites)
  unfolding definitions
  whole_within =
      subst (IsWithin (schema_of w)) whole_fold (fold_within w (open_round b.base sites) accepted joined.book.within has_segments)

  -- a client's local answers of this round
  pub own_local : (client i : ℕ) (x : SiteState) → IsClientAt w i client → slice_get sites i ≡ Some x → answers_to client (local_answers (length b.closed) 0 (segments_of sites)) ≡ answers_to client (map (local_answer x.round x.number) x.segment)
  own_local client i x own e =
      let at = joined.round.each i x e in
      at_own_site w client (length b.closed) 0 i i (segments_of sites) (omega arith) (λ site j same. let here : j ≡ site = omega (arith, same) in
      subst (λ n. All (λ y. IsCallAt w n y.call) (segment_of (segments_of sites) j)) here (calls_at j)) own
      ∙ ap (λ es. answers_to client (map (local_answer (length b.closed) i) es)) (segment_at sites i x e)
      ∙ ap (λ n. answers_to client (map (local_answer n i) x.segment)) (sym at.round)
      ∙ ap (λ n. answers_to client (map (local_answer x.round n) x.segment)) (sym at.numbered)
