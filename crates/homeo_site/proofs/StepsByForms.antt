-- A call's local step by the effect of its L form.
use Rattle.homeo_plan.specs.Key.{definitions as plan_definitions}
use Rattle.homeo_follow.specs.Key.{definitions as follow_definitions}
use Rattle.homeo_history.specs.Key.{definitions as history_definitions}
use Rattle.std.proofs.Common.{◌≡◌, ℕ, ◌==◌, ◌<◌, ◌≤◌, ◌||◌, Bool, true, false, cond, List, [], ◌∷◌, map, length, get_or, drop, ℤ, pos, neg_ℤ, ◌+ℤ◌, ◌-ℤ◌, FitsSigned, refl, sym, ap, ap₂, ◌∙◌, subst, true≢false, arith, ⊎_elim}
use Rattle.std.specs.Int.{w64, int_wrap}
use Rattle.std.proofs.lemmas.Bool.{cases_lt}
use Rattle.std.proofs.lemmas.Bool.Decides.{nat_tests}
use Rattle.std.proofs.lemmas.Int.{ints, int_wrap_fits, int_wrap-add_left}
use Rattle.std.proofs.lemmas.List.{get_or_past}
use Rattle.homeo_syntax.specs.Source as s
use Rattle.homeo_meaning.specs.Acceptance.{IsAccepted}
use Rattle.homeo_meaning.specs.LowMeaning.{BaseAt, Run, exec, whole}
use Rattle.homeo_meaning.specs.Serial.{values_of}
use Rattle.homeo_meaning.specs.declared.call.CallId.{CallId}
use Rattle.homeo_plan.specs.Each.{Each, Member}
use Rattle.homeo_plan.specs.Joined.{Deltas}
use Rattle.homeo_plan.specs.Linear.{Linear, Forms, form_value, IsZeroAt}
use Rattle.homeo_plan.specs.Planned.{sites_of, planned, planned_at, template_at, policy}
use Rattle.homeo_plan.specs.Template.{PlannedCall}
use Rattle.homeo_plan.specs.Tracking.{Is}
use Rattle.homeo_plan.proofs.PlannedCalls.{planned_member}
use Rattle.homeo_plan.proofs.Policy.{policy_fits}
use Rattle.homeo_plan.proofs.Replays.{planned_whole, planned_covers}
use Rattle.homeo_follow.specs.Follow.{own_state, Followed, object_forms, followed}
use Rattle.homeo_linear.specs.Effect.{plain_own_form, IsEffect}
use Rattle.homeo_linear.specs.declared.effect.Effect.{Effect}
use Rattle.homeo_linear.specs.declared.effect.OwnForm.{OwnForm}
use Rattle.homeo_linear.specs.declared.effect.OwnWrite.{OwnWrite}
use Rattle.homeo_local.specs.OwnValues.{own_values}
use Rattle.homeo_history.specs.Legal.{IsCallAt}
use Rattle.homeo_outline.specs.Numbers.{has}
use Rattle.homeo_site.specs.SiteState.{SiteState, step_prints, step_values, step_deltas}
use Rattle.homeo_site.specs.inner.Effects.{AreForms, printed, delta_left, delta_after, objects_of}
use Rattle.homeo_site.specs.inner.Ready.{IsReady}
use Rattle.homeo_site.proofs.CallsOfSites.{call_site}
use Rattle.homeo_site.proofs.LocalSteps.{no_delta_past, after_within}
use Rattle.homeo_site.proofs.OwnEvals.{StepRuns, step_runs, value_left}
use Rattle.homeo_site.proofs.SmallPrints.{prints_fit}
use Rattle.homeo_site.proofs.Valued.{AreValues, RunsBy, runs_by_forms, unwritten}

-- ---- what is printed
values_are :
    (deltas : List ℤ) (fs : List OwnForm) (ns : List ℤ) → AreValues (values_of deltas) (map plain_own_form fs) ns → Each (FitsSigned w64) ns →
    printed deltas fs ≡ ns
unfolding plan_definitions
values_are deltas [] [] h k = refl
values_are deltas [] (n ∷ ns) h k = absurd h
values_are deltas (f ∷ fs) [] h k = absurd h
values_are deltas (f ∷ fs) (n ∷ ns) h k =
    ap₂ ◌∷◌ (ap (int_wrap w64) (sym (h.0 tt)) ∙ int_wrap_fits w64 n k.0) (values_are deltas fs ns h.1 k.1)

-- ---- what is written
unmixed_at : (f : Forms) (ws : List OwnWrite) (n : ℕ) → AreForms f ws → has n (objects_of ws) ≡ true → (f (BaseAt n)).mixed ≡ []
unmixed_at f [] n are q = absurd (true≢false (sym q))
unmixed_at f (w ∷ ws) n are q = go (n == w.object) refl (unmixed_at f ws n (ap (drop 1) are))
  where
    go : (v : Bool) → (n == w.object) ≡ v → (has n (objects_of ws) ≡ true → (f (BaseAt n)).mixed ≡ []) → (f (BaseAt n)).mixed ≡ []
    go true e rest =
        let same : n ≡ w.object = grind (arith, nat_tests, e) in
        let first : plain_own_form w.form ≡ f (BaseAt w.object) = ap (λ l. get_or l 0 (plain_own_form w.form)) are in
        ap (λ m. (f (BaseAt m)).mixed) same ∙ sym (ap (λ (a : Linear). a.mixed) first)
    go false e rest = rest (sym (ap (λ b. b || has n (objects_of ws)) e) ∙ q)

-- a value whose form has no mixed deltas
unmixed_value : (a : Linear) (x : Deltas) (v : ℤ) → a.mixed ≡ [] → Is a (own_state x) v → v ≡ form_value a (own_state x)
unfolding plan_definitions
unmixed_value a x v none h = h (subst (Each (IsZeroAt (own_state x))) (sym none) tt)

wrapped_less : (a c : ℤ) → FitsSigned w64 (a -ℤ c) → int_wrap w64 (int_wrap w64 a -ℤ c) ≡ a -ℤ c
wrapped_less a c fits =
    let turned : int_wrap w64 a -ℤ c ≡ int_wrap w64 a +ℤ neg_ℤ c = omega (arith, ints) in
    let back : a +ℤ neg_ℤ c ≡ a -ℤ c = omega (arith, ints) in
    ap (int_wrap w64) turned ∙ int_wrap-add_left w64 a (neg_ℤ c) ∙ ap (int_wrap w64) back ∙ int_wrap_fits w64 (a -ℤ c) fits

same_object : (n : ℕ) (b x : ℕ → ℤ) (v : ℤ) → Is (object_forms b (BaseAt n)) (own_state x) v → x n ≡ v -ℤ b n
unfolding plan_definitions follow_definitions
same_object n b x v h = let is = h tt in omega (arith, ints, is)

-- ---- the step
-- the deltas that an effect leaves, from these
abbrev pub IsLeft : List ℤ → List ℤ → Effect → List ℤ → Type 0
IsLeft base deltas e new =
    (f : Forms) → AreForms f e.writes.items → (n : ℕ) → n < length deltas → values_of new n ≡ delta_after base deltas f (objects_of e.writes.items) n

pub left_there :
    (base deltas bs ds : List ℤ) (e : Effect) (new : List ℤ) → base ≡ bs → deltas ≡ ds → IsLeft base deltas e new → IsLeft bs ds e new
left_there base deltas bs ds e new same are left =
    subst (λ l. IsLeft bs l e new) are (subst (λ l. IsLeft l deltas e new) same left)

-- the objects written, and the new deltas, after the call's local step
pub record Leaves (w : s.Workload) (x : SiteState) (call : CallId) (written : List ℕ) (new : List ℤ) : Type 0 where
  pub deltas : new ≡ step_deltas w x call
  pub others : (n : ℕ) → has n written ≡ false → values_of new n ≡ values_of x.deltas n

module _
    (w : s.Workload) (x : SiteState) (accepted : IsAccepted w) (h : IsReady w x) (call : CallId) (at : IsCallAt w x.number call) (e : Effect)
    (right : IsEffect (followed (values_of x.base) (planned_at w call).command) e)
  where
    abbrev g : PlannedCall
    g = planned_at w call

    abbrev b : ℕ → ℤ
    b = values_of x.base

    abbrev q : Followed
    q = followed b g.command

    abbrev r : Run
    r = exec g.command (whole (own_values x.base x.deltas))

    member : Member g (planned w)
    member = planned_member w call at.exists

    run : RunsBy (values_of x.deltas) q r
    unfolding history_definitions
    run =
        runs_by_forms (sites_of w) b (template_at w x.base) (policy w x.base) x.number (values_of x.deltas) (policy_fits w x.base accepted) h.meets g
        (planned_covers w x.base g member) (call_site w x.number call at) h.site (planned_whole w g member)

    steps : StepRuns w x call g.command x.base
    steps = step_runs w x accepted h call at g.command x.base refl refl

    pub prints_by : printed x.deltas e.prints.items ≡ step_prints w x call
    prints_by =
        values_are x.deltas e.prints.items r.prints (subst (λ fs. AreValues (values_of x.deltas) fs r.prints) (sym right.prints) run.prints)
        (prints_fit g.command (whole (own_values x.base x.deltas)) steps.small)
        ∙ steps.prints r.prints refl

    module _
        (new : List ℤ) (count : length new ≡ length x.deltas)
        (left : IsLeft x.base x.deltas e new)
      where
        value_there : (n : ℕ) (v : Bool) → has n (objects_of e.writes.items) ≡ v → FitsSigned w64 (r.state (BaseAt n) -ℤ b n) →
            cond v (delta_left x.base x.deltas n (q.forms (BaseAt n))) (values_of x.deltas n) ≡ r.state (BaseAt n) -ℤ b n
        unfolding follow_definitions
        value_there n true is fits =
            let value = unmixed_value (q.forms (BaseAt n)) (values_of x.deltas) (r.state (BaseAt n)) (unmixed_at q.forms e.writes.items n right.forms is) (run.state (BaseAt n)) in
            ap (λ z. int_wrap w64 (int_wrap w64 z -ℤ b n)) (sym value) ∙ wrapped_less (r.state (BaseAt n)) (b n) fits
        value_there n false is fits =
            same_object n b (values_of x.deltas) (r.state (BaseAt n))
            (subst (λ (a : Linear). Is a (own_state (values_of x.deltas)) (r.state (BaseAt n)))
            (unwritten g.command (object_forms b) n (sym (right.objects n) ∙ is)) (run.state (BaseAt n)))

        past_all : (n : ℕ) → length x.deltas ≤ n → values_of new n ≡ r.state (BaseAt n) -ℤ b n
        past_all n le =
            let none : values_of new n ≡ pos 0 = get_or_past new n (pos 0) (omega (arith, le, count)) in
            let value : r.state (BaseAt n) ≡ b n +ℤ step_values w x call n = value_left w x accepted h call at g.command x.base refl refl n in
            let gone : step_values w x call n ≡ pos 0 =
            no_delta_past w x.base (step_values w x call) h.within (after_within w x accepted h call at) n (omega (arith, le, h.count)) in
            omega (arith, ints, none, value, gone)

        deltas_by : new ≡ step_deltas w x call
        deltas_by =
            steps.deltas new count
            (λ n fits. ⊎_elim (λ less. left q.forms right.forms n less ∙ value_there n (has n (objects_of e.writes.items)) refl fits) (λ le. past_all n le)
            (cases_lt n (length x.deltas)))

        others_by : (n : ℕ) → has n (objects_of e.writes.items) ≡ false → values_of new n ≡ values_of x.deltas n
        others_by n none =
            ⊎_elim
            (λ less. left q.forms right.forms n less ∙ ap (λ v. cond v (delta_left x.base x.deltas n (q.forms (BaseAt n))) (values_of x.deltas n)) none)
            (λ le. get_or_past new n (pos 0) (omega (arith, le, count)) ∙ sym (get_or_past x.deltas n (pos 0) le)) (cases_lt n (length x.deltas))

        -- where these are the objects that it wrote
        pub leaves_by : (written : List ℕ) → written ≡ objects_of e.writes.items → Leaves w x call written new
        leaves_by written is = record { deltas = deltas_by; others = λ n none. others_by n (sym (ap (has n) is) ∙ none) }
