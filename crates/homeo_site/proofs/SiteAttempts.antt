-- An attempt at a site is the call's local step on the site's state, and a commit of its change is the state after it.
use Rattle.std.proofs.Common.{Option, ◌≡◌, ℕ, false, ◌-◌, ◌≤◌, List, [], ◌∷◌, ◌++◌, map, length, get_or, ℤ, All, None, Ok, Err, Result, sym, ap, ◌∙◌, subst}
use Rattle.std.specs.Prelude.{IsOk, OnOk}
use Rattle.std.proofs.lemmas.Bool.{false≢true}
use Rattle.std.proofs.lemmas.List.{map-append}
use Rattle.homeo_syntax.specs.Listed.{Listed}
use Rattle.homeo_syntax.specs.Source as s
use Rattle.homeo_syntax.specs.SourceView.{plain_workload}
use Rattle.homeo_meaning.specs.declared.call.CallId.{CallId}
use Rattle.homeo_meaning.specs.Serial.{values_of}
use Rattle.homeo_plan.specs.declared.treaty.Broken.{Broken}
use Rattle.homeo_plan.specs.Planned.{template_at, policy}
use Rattle.homeo_plan.proofs.Findings.{finding_law}
use Rattle.homeo_history.specs.Key.{definitions as history_definitions}
use Rattle.homeo_history.specs.History as h
use Rattle.homeo_history.specs.HistoryView.{plain_entry, plain_segment}
use Rattle.homeo_history.specs.Legal.{IsCallAt}
use Rattle.homeo_history.specs.declared.history.Entry.{Entry}
use Rattle.homeo_history.specs.declared.history.Segment.{Segment}
use Rattle.homeo_site.specs.Key.{definitions}
use Rattle.homeo_site.specs.Attempts.{IsChange, IsEmptyCopy}
use Rattle.homeo_site.specs.SiteState.{SiteState, SiteHolds, KeepsCall, step_prints, step_values, step_deltas, step_finding, local_entry, after_local}
use Rattle.homeo_site.specs.SiteView.{StartValue, SiteValue, with_deltas}
use Rattle.homeo_site.specs.declared.attempts.Change.{Change}
use Rattle.homeo_site.specs.inner.Ready.{IsReady, IsAfterStep}
use Rattle.homeo_outline.specs.Numbers.{has}
use Rattle.homeo_site.specs.Standing.{IsSite, state_in}
use Rattle.homeo_site.proofs.LocalSteps.{count_like, ready}
use Rattle.homeo_site.proofs.SitesHold.{local_holds}
use Rattle.homeo_site.proofs.SiteViews.{value_in}

-- ---- a site with its deltas by another name
module _
    (v : StartValue) (x : List ℤ) (s : Segment) (u : SiteValue) (is : value_in v x s ≡ u) (d : List ℤ) (here : d ≡ u.state.deltas)
    (call : CallId)
  where
    same_deltas : d ≡ x
    same_deltas = here ∙ sym (ap (λ (y : SiteValue). y.state.deltas) is)

    pub ready_here : IsSite v x s → IsReady (plain_workload v.work) (with_deltas v d)
    ready_here site =
        let r = ready (plain_workload v.work) (state_in v x s) site.accepted site.holds in
        subst (λ (y : List ℤ). IsReady (plain_workload v.work) (with_deltas v y)) (sym same_deltas)
        (record { site = r.site; within = r.within; count = r.count; meets = r.meets; all = r.all })

    pub call_here : IsCallAt (plain_workload u.work) u.state.number call → IsCallAt (plain_workload v.work) v.number call
    call_here at = subst (λ (y : SiteValue). IsCallAt (plain_workload y.work) y.state.number call) (sym is) at

    pub finding_here : step_finding (plain_workload v.work) (with_deltas v d) call ≡ step_finding (plain_workload u.work) u.state call
    unfolding definitions
    finding_here =
        ap (λ (y : List ℤ). step_finding (plain_workload v.work) (with_deltas v y) call) same_deltas
        ∙ ap (λ (y : SiteValue). step_finding (plain_workload y.work) y.state call) is

    pub deltas_here : step_deltas (plain_workload v.work) (with_deltas v d) call ≡ step_deltas (plain_workload u.work) u.state call
    unfolding definitions
    deltas_here =
        ap (λ (y : List ℤ). step_deltas (plain_workload v.work) (with_deltas v y) call) same_deltas
        ∙ ap (λ (y : SiteValue). step_deltas (plain_workload y.work) y.state call) is

    pub count_here :
        IsSite v x s → (deltas : List ℤ) → deltas ≡ step_deltas (plain_workload u.work) u.state call → length deltas ≡ length d
    unfolding definitions
    count_here site deltas left =
        ap length left ∙ count_like u.state.base (step_values (plain_workload u.work) u.state call)
        ∙ sym (ap (λ (y : SiteValue). length y.state.base) is) ∙ sym site.holds.count ∙ sym (ap length same_deltas)

    -- from these deltas the call's local step leaves what its room has
    pub after_step :
        IsSite v x s → IsCallAt (plain_workload u.work) u.state.number call → (written : List ℕ) (deltas : List ℤ) →
        deltas ≡ step_deltas (plain_workload u.work) u.state call → ((n : ℕ) → has n written ≡ false → values_of deltas n ≡ values_of d n) →
        IsAfterStep (plain_workload v.work) v written deltas
    after_step site at written deltas left others = record {
      call = call;
      before = d;
      at = call_here at;
      ready = ready_here site;
      left = left ∙ sym deltas_here;
      others = others;
    }

    -- so what is found to fail there is what the step finds
    pub found_here :
        (site : IsSite v x s) (at : IsCallAt (plain_workload u.work) u.state.number call) (written : List ℕ) (deltas : List ℤ)
        (left : deltas ≡ step_deltas (plain_workload u.work) u.state call)
        (others : (n : ℕ) → has n written ≡ false → values_of deltas n ≡ values_of d n) (o : Option Broken) →
        ((a : IsAfterStep (plain_workload v.work) v written deltas) → o ≡ step_finding (plain_workload v.work) (with_deltas v a.before) a.call) →
        o ≡ step_finding (plain_workload u.work) u.state call
    unfolding after_step
    found_here site at written deltas left others o found = found (after_step site at written deltas left others) ∙ finding_here

pub copies_fit :
    (u : SiteValue) (call : CallId) (prints : List ℤ) (copies : List (Listed ℤ)) →
    prints ≡ step_prints (plain_workload u.work) u.state call → All (IsEmptyCopy (plain_workload u.work) u.state call) copies →
    All (λ (copy : Listed ℤ). (copy.items ≡ []) × (length prints ≤ copy.spare)) copies
copies_fit u call prints copies is h k d lt =
    let copy = h k d lt in (copy.empty, subst (λ l. length l ≤ (get_or copies k d).spare) (sym is) copy.spare)

-- ---- outcomes
pub change_is :
    (w : s.Workload) (x : SiteState) (call : CallId) (c : Change) → step_finding w x call ≡ None → c.call ≡ call →
    c.deltas.items ≡ step_deltas w x call → c.prints.items ≡ step_prints w x call →
    ((n : ℕ) → has n c.written.items ≡ false → values_of c.deltas.items n ≡ values_of x.deltas n) → IsChange w x call c
unfolding definitions history_definitions
change_is w x call c none name deltas prints written =
    record {
      keeps = (finding_law (template_at w x.base) (policy w x.base) x.number (step_values w x call)).none none;
      call = name;
      deltas = deltas;
      prints = prints;
      written = written;
    }

-- ---- a commit
pub on_ok : {X E P : Type 0} (r : Result X E) → IsOk r → OnOk r P → P
on_ok (Ok x) ok h = h
on_ok (Err e) ok h = absurd (false≢true ok)

module _
    (v : StartValue) (x : List ℤ) (s : Segment) (u : SiteValue) (is : value_in v x s ≡ u) (call : CallId) (d : List ℤ) (t : Segment)
    (e : Entry) (name : e.call ≡ call) (prints : e.prints.items ≡ step_prints (plain_workload u.work) u.state call)
    (deltas : d ≡ step_deltas (plain_workload u.work) u.state call) (entries : t.entries.items ≡ s.entries.items ++ e ∷ [])
  where
    abbrev before : SiteState
    before = state_in v x s

    -- the state after the commit is that after the local step
    committed : state_in v d t ≡ after_local (plain_workload v.work) before call
    unfolding definitions history_definitions
    committed =
        let old_deltas : d ≡ step_deltas (plain_workload v.work) before call =
        deltas ∙ sym (ap (λ (y : SiteValue). step_deltas (plain_workload y.work) y.state call) is) in
        let old_prints : e.prints.items ≡ step_prints (plain_workload v.work) before call =
        prints ∙ sym (ap (λ (y : SiteValue). step_prints (plain_workload y.work) y.state call) is) in
        let entry : plain_entry e ≡ local_entry (plain_workload v.work) before call = λ j. record { call = name j; prints = old_prints j } in
        let segment : plain_segment t ≡ plain_segment s ++ local_entry (plain_workload v.work) before call ∷ [] =
        ap (map plain_entry) entries ∙ map-append plain_entry s.entries.items (e ∷ []) ∙ ap (λ (y : h.Entry). plain_segment s ++ y ∷ []) entry in
        λ j. record { number = v.number; round = v.round; base = v.base; deltas = old_deltas j; segment = segment j }

    pub commit_holds :
        IsSite v x s → IsCallAt (plain_workload u.work) u.state.number call → KeepsCall (plain_workload u.work) u.state call → IsSite v d t
    commit_holds site at keeps =
        record {
          accepted = site.accepted;
          holds =
              subst (SiteHolds (plain_workload v.work)) (sym committed)
              (local_holds (plain_workload v.work) before call site.accepted site.holds
              (subst (λ (y : SiteValue). IsCallAt (plain_workload y.work) y.state.number call) (sym is) at)
              (subst (λ (y : SiteValue). KeepsCall (plain_workload y.work) y.state call) (sym is) keeps));
        }

    -- the value with a state
    abbrev with_state : SiteValue → SiteState → ℕ → SiteValue
    with_state y z n = record { work = y.work; state = z; spare = n }

    pub commit_value :
        t.entries.spare ≡ s.entries.spare - 1 →
        value_in v d t ≡ with_state u (after_local (plain_workload u.work) u.state call) (u.spare - 1)
    commit_value spare =
        let state = committed in
        let here : value_in v d t ≡ with_state (value_in v x s) (after_local (plain_workload v.work) before call) (s.entries.spare - 1) =
        λ j. record { work = v.work; state = state j; spare = spare j } in
        here ∙ ap (λ (y : SiteValue). with_state y (after_local (plain_workload y.work) y.state call) (y.spare - 1)) is
