-- Tests and conditions without faults are what they are where all deltas are 0.
use Rattle.homeo_meaning.specs.Key.{definitions as meaning_definitions}
use Rattle.homeo_plan.specs.Key.{definitions as plan_definitions}
use Rattle.homeo_certificate.specs.Key.{definitions}
use Rattle.std.proofs.Common.{◌≡◌, Bool, true, false, cond, not, ◌&&◌, List, [], ◌∷◌, pos, ◌+ℤ◌, ◌≤ℤ◌, neg_ℤ, int_lt, refl, sym, ap, ap₂, ◌∙◌, true≢false, arith}
use Rattle.std.proofs.lemmas.Int.{ints}
use Rattle.std.specs.List.{flat_map}
use Rattle.std.proofs.lemmas.Bool.{not-true, not-false, and_parts}
use Rattle.homeo_lemmas.proofs.Bools.{and_false}
use Rattle.homeo_syntax.specs.declared.phrase.Compare.{Compare}
use Rattle.homeo_syntax.specs.declared.phrase.Compare.TheVariants.{Less, LessEqual, Equal}
use Rattle.homeo_syntax.specs.Low.{Expr, Test, Cond, True, Not, Comparison, NoTest, MoreTest}
use Rattle.homeo_meaning.specs.Meaning.{compared}
use Rattle.homeo_meaning.specs.LowMeaning.{State, value, passes, holds}
use Rattle.homeo_plan.specs.Each.{Each}
use Rattle.homeo_plan.specs.Holding.{AtomHolds}
use Rattle.homeo_plan.specs.declared.forms.Term.{Term}
use Rattle.homeo_plan.specs.Linear.{Linear, Forms, form, terms_value, is_empty, IsZeroAt}
use Rattle.homeo_plan.specs.Atoms.{true_comparison, false_comparison}
use Rattle.homeo_plan.specs.Tracking.{Is, IsBelowAtBase, ClauseHolds}
use Rattle.homeo_plan.proofs.Atoms.{true_comparison_holds, false_comparison_holds, true_below, false_below, each_append}
use Rattle.homeo_certificate.specs.Met.{at_zero}
use Rattle.homeo_certificate.specs.Kept.{Atom, atom, form_of, kept_true, kept_false, true_test, true_cond, false_test, false_cond, kept}
use Rattle.homeo_certificate.specs.Followed.{Rules, not_frozen, no_clause, atom_faults}
use Rattle.homeo_certificate.proofs.Constants.{constant_is}
use Rattle.homeo_certificate.proofs.FaultLists.{none_of_both, none_of_each, all_frozen, clause_kept}

-- what the certificate asks holds in a state
pub record Meets (r : Rules) (s : State) : Type 0 where
  pub clauses : Each (ClauseHolds s) r.clauses
  pub freezes : Each (IsZeroAt s) r.freezes

-- an atom without faults has its mixed deltas frozen, and its clause
pub record NoFaults (r : Rules) (a : Linear) : Type 0 where
  pub mixed : not_frozen r a.mixed ≡ []
  pub clause : no_clause r a ≡ []

no_faults : (r : Rules) (a : Atom) → atom_faults r a ≡ [] → NoFaults r (form_of a)
unfolding definitions plan_definitions
no_faults r a e =
    let p = none_of_both _ _ e in
    let q = none_of_both (not_frozen r (form_of a).mixed) (no_clause r (form_of a)) p.1 in
    record { mixed = q.0; clause = q.1 }

module _ (r : Rules) (s : State) (meets : Meets r s) where
  -- an atom without faults is at most 0, where it is so if all deltas are 0
  atom_holds : (a : Atom) → atom_faults r a ≡ [] → IsBelowAtBase (form_of a) → AtomHolds s (form_of a)
  unfolding definitions plan_definitions meaning_definitions
  atom_holds a e low =
      let q = no_faults r a e in
      record {
        mixed = all_frozen (IsZeroAt s) r (form_of a).mixed meets.freezes q.mixed;
        below = go (form_of a).terms (clause_kept s (form_of a) r meets.clauses q.clause);
      }
    where
      go : (ts : List Term) → (is_empty ts ≡ false → terms_value ts s ≤ℤ neg_ℤ (form_of a).constant) → ((form_of a).constant +ℤ terms_value ts s) ≤ℤ pos 0
      go [] c = omega (arith, ints, low)
      go (t ∷ ts) c = let h = c refl in omega (arith, ints)

  abbrev Keeps : Atom → Type 0
  Keeps a = atom_faults r a ≡ []

  kept_true_holds :
      (op : Compare) (a b : Linear) → compared op a.constant b.constant ≡ true → Each Keeps (kept_true op a b) →
      Each (AtomHolds s) (true_comparison op a b)
  unfolding definitions plan_definitions meaning_definitions
  kept_true_holds Less a b e h = let low = true_below Less a b e in (atom_holds (atom a b (pos 1)) h.0 low.0, tt)
  kept_true_holds LessEqual a b e h = let low = true_below LessEqual a b e in (atom_holds (atom a b (pos 0)) h.0 low.0, tt)
  kept_true_holds Equal a b e h =
      let low = true_below Equal a b e in
      (atom_holds (atom a b (pos 0)) h.0 low.0, (atom_holds (atom b a (pos 0)) h.1.0 low.1.0, tt))

  kept_false_holds :
      (op : Compare) (a b : Linear) → compared op a.constant b.constant ≡ false → Each Keeps (kept_false op a b) →
      Each (AtomHolds s) (false_comparison op (int_lt a.constant b.constant) a b)
  unfolding definitions plan_definitions meaning_definitions
  kept_false_holds Less a b e h = let low = false_below Less a b e in (atom_holds (atom b a (pos 0)) h.0 low.0, tt)
  kept_false_holds LessEqual a b e h = let low = false_below LessEqual a b e in (atom_holds (atom b a (pos 1)) h.0 low.0, tt)
  kept_false_holds Equal a b e h = go (int_lt a.constant b.constant) h (false_below Equal a b e)
    where
      go :
          (v : Bool) → Each Keeps (cond v (atom a b (pos 1)) (atom b a (pos 1)) ∷ []) →
          Each IsBelowAtBase (false_comparison Equal v a b) → Each (AtomHolds s) (false_comparison Equal v a b)
      go true h low = (atom_holds (atom a b (pos 1)) h.0 low.0, tt)
      go false h low = (atom_holds (atom b a (pos 1)) h.0 low.0, tt)

  module _ (f : Forms) (u : State) (is : (e : Expr) → Is (form f e) s (value e u)) where
    at_base : (op : Compare) (x y : Expr) → compared op (value x (at_zero f)) (value y (at_zero f)) ≡ compared op (form f x).constant (form f y).constant
    unfolding definitions plan_definitions meaning_definitions
    at_base op x y = ap₂ (compared op) (sym (constant_is f x)) (sym (constant_is f y))

    mutual
      unfolding definitions plan_definitions meaning_definitions

      true_test_stays : (t : Test) → passes t (at_zero f) ≡ true → Each Keeps (true_test f t) → passes t u ≡ true
      true_test_stays True e h = refl
      true_test_stays (Not c) e h = ap not (false_cond_stays c (not-true (holds c (at_zero f)) e) h)
      true_test_stays (Comparison op x y) e h =
          true_comparison_holds op (form f x) (form f y) s (value x u) (value y u) (is x) (is y)
          (kept_true_holds op (form f x) (form f y) (sym (at_base op x y) ∙ e) h)

      false_test_stays : (t : Test) → passes t (at_zero f) ≡ false → Each Keeps (false_test f t) → passes t u ≡ false
      false_test_stays True e h = e
      false_test_stays (Not c) e h = ap not (true_cond_stays c (not-false (holds c (at_zero f)) e) h)
      false_test_stays (Comparison op x y) e h =
          false_comparison_holds op (int_lt (form f x).constant (form f y).constant) (form f x) (form f y) s (value x u) (value y u) (is x) (is y)
          (kept_false_holds op (form f x) (form f y) (sym (at_base op x y) ∙ e) h)

      true_cond_stays : (c : Cond) → holds c (at_zero f) ≡ true → Each Keeps (true_cond f c) → holds c u ≡ true
      true_cond_stays NoTest e h = refl
      true_cond_stays (MoreTest t c) e h =
          let k = each_append Keeps (true_test f t) (true_cond f c) h in
          let m = and_parts (passes t (at_zero f)) (holds c (at_zero f)) e in
          ap₂ (λ u v. (u && v)) (true_test_stays t m.0 k.0) (true_cond_stays c m.1 k.1)

      false_cond_stays : (c : Cond) → holds c (at_zero f) ≡ false → Each Keeps (false_cond f c) → holds c u ≡ false
      false_cond_stays NoTest e h = absurd (true≢false e)
      false_cond_stays (MoreTest t c) e h = first_false (passes t (at_zero f)) refl (false_cond_stays c) (false_test_stays t) e h
        where
          first_false :
              (v : Bool) → passes t (at_zero f) ≡ v →
              (holds c (at_zero f) ≡ false → Each Keeps (false_cond f c) → holds c u ≡ false) →
              (passes t (at_zero f) ≡ false → Each Keeps (false_test f t) → passes t u ≡ false) →
              (v && holds c (at_zero f)) ≡ false → Each Keeps (cond v (false_cond f c) (false_test f t)) →
              (passes t u && holds c u) ≡ false
          first_false true q hc ht e h = ap (λ w. passes t u && w) (hc e h) ∙ and_false (passes t u)
          first_false false q hc ht e h = ap (λ w. w && holds c u) (ht q h)

    -- a condition without faults
    pub cond_stays : (c : Cond) → flat_map (atom_faults r) (kept f c) ≡ [] → holds c u ≡ holds c (at_zero f)
    unfolding definitions plan_definitions meaning_definitions
    cond_stays c e = go (holds c (at_zero f)) refl (none_of_each (atom_faults r) (kept f c) e)
      where
        go :
            (v : Bool) → holds c (at_zero f) ≡ v → Each Keeps (cond v (true_cond f c) (false_cond f c)) → holds c u ≡ v
        go true q h = true_cond_stays c q h
        go false q h = false_cond_stays c q h
