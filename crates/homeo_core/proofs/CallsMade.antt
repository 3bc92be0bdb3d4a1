-- A call of a client over closed rounds and sites.
use Rattle.homeo_history.specs.Key.{definitions as history_definitions}
use Rattle.homeo_site.specs.Key.{definitions as site_definitions}
use Rattle.std.proofs.Common.{◌≡◌, ℕ, ◌<◌, List, map, length, get_or, ℤ, Option, Some, None, Result, Ok, Err, refl, sym, ap, subst, ◌∙◌, slice_set}
use Rattle.std.specs.Prelude.{unwrap_or, IfOk, OnOk, OnErr}
use Rattle.homeo_lemmas.proofs.Places.{set_itself}
use Rattle.homeo_syntax.specs.Source as s
use Rattle.homeo_meaning.specs.declared.call.CallId.{CallId}
use Rattle.homeo_meaning.specs.Acceptance.{IsAccepted}
use Rattle.homeo_plan.specs.declared.treaty.Broken.{Broken}
use Rattle.homeo_plan.specs.Planned.{sites_of, template_at, policy}
use Rattle.homeo_plan.proofs.Findings.{finding_law}
use Rattle.homeo_plan.proofs.PlannedCalls.{site_below}
use Rattle.homeo_core.specs.Key.{definitions}
use Rattle.homeo_history.specs.Answers.{Answer, local_answer, closing_answer}
use Rattle.homeo_history.specs.Follows.{site_or_zero}
use Rattle.homeo_history.specs.Legal.{IsCallAt}
use Rattle.homeo_history.proofs.CallRuns.{site_is}
use Rattle.homeo_site.specs.SiteState.{SiteState, KeepsCall, step_values, step_finding, local_entry, after_local, renewed}
use Rattle.homeo_site.specs.SiteView.{SiteValue}
use Rattle.homeo_core.specs.CoreView.{book_after, sites_after, answer_to, IsCallMade}
use Rattle.homeo_core.specs.Events.{closing_of, next_base, after_closing}
use Rattle.homeo_core.specs.Joined.{BookState, AreJoined}
use Rattle.homeo_core.specs.SiteLists.{states}
use Rattle.homeo_core.proofs.GatheredSites.{states_at, states_count, states_set}

-- nothing fails where the treaty is kept
pub none_where_kept : (w : s.Workload) (x : SiteState) (call : CallId) → KeepsCall w x call → step_finding w x call ≡ None
unfolding site_definitions history_definitions
none_where_kept w x call keeps = go (step_finding w x call) refl
  where
    go : (o : Option Broken) → step_finding w x call ≡ o → o ≡ None
    go None e = refl
    go (Some f) e = absurd ((finding_law (template_at w x.base) (policy w x.base) x.number (step_values w x call)).some f e keeps)

pub home_is : (w : s.Workload) (home : ℕ) (call : CallId) → IsCallAt w home call → site_or_zero w call ≡ home
unfolding history_definitions
home_is w home call at = ap (λ o. unwrap_or o 0) at.at_site

pub home_lt : (w : s.Workload) (start : List ℤ) (b : BookState) (sites : List SiteValue) (home : ℕ) (call : CallId) → IsAccepted w → AreJoined w start b (states sites) → IsCallAt w home call → home < length sites
home_lt w start b sites home call accepted joined at =
    let below : home < sites_of w = subst (λ n. n < sites_of w) (site_is w call home at) (site_below w call accepted at.exists) in
    subst (λ n. home < n) (sym joined.round.count ∙ states_count sites) below

-- where a site's state is as it was, so are all
pub states_stay : (sites : List SiteValue) (home : ℕ) (d y : SiteValue) → home < length sites → y.state ≡ (get_or sites home d).state → states (slice_set sites home y) ≡ states sites
states_stay sites home d y lt same =
    states_set sites home y ∙ ap (slice_set (states sites) home) same ∙ set_itself (states sites) home (get_or sites home d).state (states_at sites home d lt)

-- ---- results
pub on_err : {T E : Type 0} (r : Result T E) (P : Type 0) → P → OnErr r P
on_err (Ok x) P h = tt
on_err (Err e) P h = h

pub on_err_map : {T E : Type 0} (r : Result T E) (P Q : Type 0) → (P → Q) → OnErr r P → OnErr r Q
on_err_map (Ok x) P Q f h = tt
on_err_map (Err e) P Q f h = f h

pub if_ok : {T E : Type 0} (r : Result T E) (P Q : Type 0) (R S : T → Type 0) → OnOk r P → OnOk r Q → IfOk r R → ((x : T) → P → Q → R x → S x) → IfOk r S
if_ok (Ok x) P Q R S p q h f = f x p q h
if_ok (Err e) P Q R S p q h f = tt

-- ---- a call that its site makes alone, or that closes the round
module _ (w : s.Workload) (b : BookState) (sites : List SiteValue) (home : ℕ) (call : CallId) (d y : SiteValue) (lt : home < length sites) where
  pub made_alone :
      (a : Answer) → KeepsCall w (get_or sites home d).state call → y.state ≡ after_local w (get_or sites home d).state call →
      a ≡ local_answer (length b.closed) home (local_entry w (get_or sites home d).state call) →
      IsCallMade w b (states sites) home call a b (states (slice_set sites home y))
  unfolding definitions
  made_alone a keeps state answer =
      let x : SiteState = (get_or sites home d).state in
      let none : step_finding w x call ≡ None = none_where_kept w x call keeps in
      record {
        site = x;
        here = states_at sites home d lt;
        rounds = ap (book_after w b (states sites) home call) (sym none);
        states =
            states_set sites home y ∙ ap (slice_set (states sites) home) state
            ∙ ap (sites_after w b (states sites) home x call) (sym none);
        answer = answer ∙ ap (answer_to w b (states sites) home x call) (sym none);
      }

  pub made_closing :
      (broken : Broken) (a : Answer) (n : ℕ) (b' : BookState) (sites' : List SiteState) → IsCallAt w home call →
      states (slice_set sites home y) ≡ states sites → step_finding w (get_or sites home d).state call ≡ Some broken → n ≡ length b.closed →
      b' ≡ after_closing w b (states (slice_set sites home y)) (site_or_zero w call) call broken →
      sites' ≡ map (renewed (next_base w b (states (slice_set sites home y)) call)) (states (slice_set sites home y)) →
      a ≡ closing_answer n (closing_of w b (states (slice_set sites home y)) (site_or_zero w call) call broken) →
      IsCallMade w b (states sites) home call a b' sites'
  unfolding definitions
  made_closing broken a n b' sites' at stay breaks count book moved answer =
      let x : SiteState = (get_or sites home d).state in
      let place = home_is w home call at in
      record {
        site = x;
        here = states_at sites home d lt;
        rounds = book ∙ (λ j. after_closing w b (stay j) (place j) call broken) ∙ ap (book_after w b (states sites) home call) (sym breaks);
        states =
            moved ∙ (λ j. map (renewed (next_base w b (stay j) call)) (stay j))
            ∙ ap (sites_after w b (states sites) home x call) (sym breaks);
        answer =
            answer ∙ (λ j. closing_answer (count j) (closing_of w b (stay j) (place j) call broken))
            ∙ ap (answer_to w b (states sites) home x call) (sym breaks);
      }
