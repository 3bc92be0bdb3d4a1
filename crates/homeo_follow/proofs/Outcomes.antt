-- Where the values of forms stand at all places, and the atoms of a test hold, the test comes out as by the forms.
use Rattle.homeo_meaning.specs.Key.{definitions as meaning_definitions}
use Rattle.homeo_plan.specs.Key.{definitions as plan_definitions}
use Rattle.homeo_follow.specs.Key.{definitions}
use Rattle.std.proofs.Common.{◌≡◌, Bool, true, false, cond, not, ◌&&◌, refl, ap, ap₂, ◌∙◌, true≢false}
use Rattle.std.proofs.lemmas.Bool.{and_parts, not-true, not-false}
use Rattle.homeo_lemmas.proofs.Bools.{and_false}
use Rattle.homeo_syntax.specs.Low.{Expr, Test, Cond, True, Not, Comparison, NoTest, MoreTest}
use Rattle.homeo_meaning.specs.LowMeaning.{Location, State, value, passes, holds}
use Rattle.homeo_plan.specs.Each.{Each}
use Rattle.homeo_plan.specs.Holding.{AtomHolds}
use Rattle.homeo_plan.specs.Linear.{Forms, form}
use Rattle.homeo_plan.specs.Tracking.{Is, TracksAll}
use Rattle.homeo_plan.proofs.Atoms.{each_append, true_comparison_holds, false_comparison_holds}
use Rattle.homeo_plan.proofs.Tracked.{tracks}
use Rattle.homeo_follow.specs.Follow.{passes_by, holds_by, passed_test, failed_test, passed, failed}

-- what stands at each place is the value of its form in a state
abbrev pub AllAre : State → Forms → State → Type 0
AllAre s f u = (p : Location) → Is (f p) s (u p)

module _ (s : State) (f : Forms) (u : State) (h : AllAre s f u) where
  all_track : TracksAll f s s u u
  unfolding plan_definitions
  all_track p = record { here = h p; there = h p; apart = λ k. refl }

  pub value_is : (e : Expr) → Is (form f e) s (value e u)
  value_is e = (tracks f s s u u all_track e).here

  mutual
    unfolding definitions plan_definitions meaning_definitions

    pub passed_test_holds : (t : Test) → passes_by f t ≡ true → Each (AtomHolds s) (passed_test f t) → passes t u ≡ true
    passed_test_holds True e k = refl
    passed_test_holds (Not c) e k = ap not (failed_holds c (not-true (holds_by f c) e) k)
    passed_test_holds (Comparison op a b) e k =
        true_comparison_holds op (form f a) (form f b) s (value a u) (value b u) (value_is a) (value_is b) k

    pub failed_test_holds : (t : Test) → passes_by f t ≡ false → Each (AtomHolds s) (failed_test f t) → passes t u ≡ false
    failed_test_holds True e k = e
    failed_test_holds (Not c) e k = ap not (passed_holds c (not-false (holds_by f c) e) k)
    failed_test_holds (Comparison op a b) e k =
        false_comparison_holds op _ (form f a) (form f b) s (value a u) (value b u) (value_is a) (value_is b) k

    pub passed_holds : (c : Cond) → holds_by f c ≡ true → Each (AtomHolds s) (passed f c) → holds c u ≡ true
    passed_holds NoTest e k = refl
    passed_holds (MoreTest t c) e k =
        let m = each_append (AtomHolds s) (passed_test f t) (passed f c) k in
        let both = and_parts (passes_by f t) (holds_by f c) e in
        ap₂ (λ v w. (v && w)) (passed_test_holds t both.0 m.0) (passed_holds c both.1 m.1)

    pub failed_holds : (c : Cond) → holds_by f c ≡ false → Each (AtomHolds s) (failed f c) → holds c u ≡ false
    failed_holds NoTest e k = absurd (true≢false e)
    failed_holds (MoreTest t c) e k = first_false (passes_by f t) refl (failed_holds c) (failed_test_holds t) e k
      where
        first_false :
            (v : Bool) → passes_by f t ≡ v →
            (holds_by f c ≡ false → Each (AtomHolds s) (failed f c) → holds c u ≡ false) →
            (passes_by f t ≡ false → Each (AtomHolds s) (failed_test f t) → passes t u ≡ false) →
            (v && holds_by f c) ≡ false → Each (AtomHolds s) (cond v (failed f c) (failed_test f t)) →
            (passes t u && holds c u) ≡ false
        first_false true q more one e k = ap (λ w. passes t u && w) (more e k) ∙ and_false (passes t u)
        first_false false q more one e k = ap (λ w. w && holds c u) (one q k)
