-- A site that keeps nothing of what it ran has all that a call's local step needs, before it and after it.
use Rattle.std.proofs.Common.{◌≡◌, ℕ, false, List, ℤ, ◌+ℤ◌, replicate, length, pos, Option, None, sym, ap, ◌∙◌, subst}
use Rattle.homeo_syntax.specs.Source as s
use Rattle.homeo_syntax.specs.SourceView.{plain_workload}
use Rattle.homeo_meaning.specs.Acceptance.{IsAccepted}
use Rattle.homeo_meaning.specs.Bounds.{AllWithin}
use Rattle.homeo_meaning.specs.Schema.{schema_of}
use Rattle.homeo_meaning.specs.Serial.{values_of}
use Rattle.homeo_meaning.specs.declared.call.CallId.{CallId}
use Rattle.homeo_outline.specs.Numbers.{has}
use Rattle.homeo_plan.specs.declared.treaty.Broken.{Broken}
use Rattle.homeo_plan.specs.Joined.{Deltas}
use Rattle.homeo_plan.specs.Planned.{template_at, policy}
use Rattle.homeo_plan.proofs.Findings.{finding_law}
use Rattle.homeo_history.specs.Key.{definitions as history_definitions}
use Rattle.homeo_history.specs.Legal.{IsCallAt}
use Rattle.homeo_history.specs.Replayed.{MeetsTreaty}
use Rattle.homeo_history.specs.declared.history.Segment.{Segment}
use Rattle.homeo_site.specs.Key.{definitions}
use Rattle.homeo_site.specs.BareView.{BareValue, bare_begun, after_bare}
use Rattle.homeo_site.specs.SiteState.{SiteState, step_prints, step_values, step_deltas, step_finding, begun}
use Rattle.homeo_site.specs.SiteView.{StartValue, with_deltas}
use Rattle.homeo_site.specs.Standing.{IsStart}
use Rattle.homeo_site.specs.inner.Bare.{IsBare}
use Rattle.homeo_site.specs.inner.Ready.{IsReady, IsAfterStep}
use Rattle.homeo_site.proofs.LocalSteps.{count_like, after_within, step_list, ready}
use Rattle.homeo_site.proofs.SitesHold.{begun_holds}

-- ---- the start of a round
ready_begun : (w : s.Workload) (v : StartValue) → IsReady w (begun v.number v.round v.base) → IsReady w (with_deltas v (replicate (length v.base) (pos 0)))
unfolding definitions
ready_begun w v r = r

pub start_bare : (v : StartValue) (x : List ℤ) (t : Segment) → IsStart v x t → IsBare v x
start_bare v x t start = record {
  accepted = start.accepted;
  ready =
      subst (λ (y : List ℤ). IsReady (plain_workload v.work) (with_deltas v y)) (sym start.deltas)
      (ready_begun (plain_workload v.work) v (ready (plain_workload v.work) (begun v.number v.round v.base) start.accepted (begun_holds (plain_workload v.work) v.number v.round v.base start.accepted start.site start.within)));
}

pub start_state : (v : StartValue) (x : List ℤ) (t : Segment) → IsStart v x t → with_deltas v x ≡ begun v.number v.round v.base
unfolding definitions
start_state v x t start = ap (with_deltas v) start.deltas

pub begun_value : (v : StartValue) (x : List ℤ) (t : Segment) (u : StartValue) → IsStart v x t → v ≡ u → record { work = v.work; state = with_deltas v x } ≡ bare_begun u
begun_value v x t u start is = (λ j. record { work = v.work; state = start_state v x t start j }) ∙ ap bare_begun is

-- ---- after a call that keeps the treaty
module _ (w : s.Workload) (v : StartValue) (x : List ℤ) (accepted : IsAccepted w) (r : IsReady w (with_deltas v x)) (call : CallId) (at : IsCallAt w v.number call) where
  abbrev before : SiteState
  before = with_deltas v x

  abbrev left : List ℤ
  left = step_deltas w before call

  is_left : values_of left ≡ step_values w before call
  is_left = step_list w before accepted r call at

  count_left : length left ≡ length v.base
  unfolding definitions
  count_left = count_like v.base (step_values w before call)

  keeps : step_finding w before call ≡ None → MeetsTreaty w v.base v.number (step_values w before call)
  unfolding definitions history_definitions
  keeps none = (finding_law (template_at w v.base) (policy w v.base) v.number (step_values w before call)).none none

  pub ready_after : step_finding w before call ≡ None → IsReady w (with_deltas v left)
  ready_after none = record {
    site = r.site;
    within = r.within;
    count = count_left;
    meets = subst (MeetsTreaty w v.base v.number) (sym is_left) (keeps none);
    all = subst (λ (d : Deltas). AllWithin (schema_of w) (λ n. values_of v.base n +ℤ d n)) (sym is_left) (after_within w before accepted r call at);
  }

-- ---- a call's local step as the code runs it
abbrev pub in_value : StartValue → List ℤ → BareValue
in_value v x = record { work = v.work; state = with_deltas v x }

module _ (v : StartValue) (x : List ℤ) (u : BareValue) (is : in_value v x ≡ u) (bare : IsBare v x) (call : CallId) (at : IsCallAt (plain_workload u.work) u.state.number call) (d : List ℤ) (here : d ≡ x) (next : List ℤ) (left_is : next ≡ step_deltas (plain_workload v.work) (with_deltas v d) call) where
  at_here : IsCallAt (plain_workload v.work) v.number call
  at_here = subst (λ (y : BareValue). IsCallAt (plain_workload y.work) y.state.number call) (sym is) at

  left_here : next ≡ step_deltas (plain_workload v.work) (with_deltas v x) call
  left_here = left_is ∙ ap (λ y. step_deltas (plain_workload v.work) (with_deltas v y) call) here

  pub run_count : length next ≡ length x
  run_count =
      ap length left_here ∙ count_left (plain_workload v.work) v x bare.accepted bare.ready call at_here ∙ sym bare.ready.count

  module _ (written lent : List ℕ) (same : lent ≡ written) (lent_next : List ℤ) (are : lent_next ≡ next) (others : (n : ℕ) → has n written ≡ false → values_of next n ≡ values_of d n) (o : Option Broken) (found : (s : IsAfterStep (plain_workload v.work) v lent lent_next) → o ≡ step_finding (plain_workload v.work) (with_deltas v s.before) s.call) where
    others_here : (n : ℕ) → has n lent ≡ false → values_of lent_next n ≡ values_of x n
    others_here n none =
        ap (λ l. values_of l n) are ∙ others n (sym (ap (has n) same) ∙ none) ∙ ap (λ l. values_of l n) here

    found_here : o ≡ step_finding (plain_workload v.work) (with_deltas v x) call
    found_here =
        found (record { call = call; before = x; at = at_here; ready = bare.ready; left = are ∙ left_here; others = others_here })

    pub found_is : o ≡ step_finding (plain_workload u.work) u.state call
    found_is = found_here ∙ ap (λ (y : BareValue). step_finding (plain_workload y.work) y.state call) is

    pub run_bare : o ≡ None → IsBare v next
    run_bare none = record {
      accepted = bare.accepted;
      ready =
          subst (λ (y : List ℤ). IsReady (plain_workload v.work) (with_deltas v y)) (sym left_here)
          (ready_after (plain_workload v.work) v x bare.accepted bare.ready call at_here (sym found_here ∙ none));
    }

  pub run_prints : (prints : List ℤ) → prints ≡ step_prints (plain_workload v.work) (with_deltas v d) call → prints ≡ step_prints (plain_workload u.work) u.state call
  run_prints prints e =
      e ∙ ap (λ y. step_prints (plain_workload v.work) (with_deltas v y) call) here
      ∙ ap (λ (y : BareValue). step_prints (plain_workload y.work) y.state call) is

  pub run_state : with_deltas v next ≡ after_bare (plain_workload u.work) u.state call
  unfolding definitions
  run_state =
      ap (with_deltas v) left_here ∙ ap (λ (y : BareValue). after_bare (plain_workload y.work) y.state call) is
