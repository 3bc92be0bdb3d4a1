-- The clauses over whole objects that name an object are those that have terms on its delta of a site.
use Rattle.std.proofs.Common.{◌≡◌, ℕ, zero, suc, ◌==◌, ◌+◌, ◌<◌, ◌≤◌, Bool, true, false, cond, ◌&&◌, List, [], ◌∷◌, map, ℤ, refl, sym, ap, ap₂, ◌∙◌, arith}
use Rattle.std.specs.Prelude.{◌||◌}
use Rattle.std.proofs.lemmas.Bool.Decides.{nat_tests}
use Rattle.std.proofs.lemmas.List.Folds.{list_any-append}
use Rattle.homeo_lemmas.proofs.Bools.{or_false}
use Rattle.homeo_plan.specs.Key.{definitions as plan_definitions}
use Rattle.homeo_plan.specs.declared.forms.Term.{Term}
use Rattle.homeo_plan.specs.Linear.{delta_of}
use Rattle.homeo_plan.specs.Template.{Clause}
use Rattle.homeo_follow.specs.Key.{definitions as follow_definitions}
use Rattle.homeo_follow.specs.Expanded.{terms_from, expanded_terms}
use Rattle.homeo_follow.specs.ObjectTemplate.{expanded_clause}
use Rattle.homeo_outline.specs.Key.{definitions as outline_definitions}
use Rattle.homeo_outline.specs.Numbers.{names_object, numbers_where}
use Rattle.homeo_outline.specs.ObjectPlan.{clauses_with}
use Rattle.homeo_effect.specs.Key.{definitions}
use Rattle.homeo_effect.specs.Touched.{is_among, are_on, is_touched}

module _ (x i : ℕ) where
  -- the term at site j
  at_other : (y j : ℕ) → (j == i) ≡ false → is_among (delta_of x i ∷ []) (delta_of y j) ≡ false
  unfolding definitions plan_definitions
  at_other y j h = go (y == x) (j == i) h
    where
      go : (a b : Bool) → b ≡ false → ((a && b) || false) ≡ false
      go true b h = ap (λ v. v || false) h
      go false b h = refl

  at_same : (y j : ℕ) → (j == i) ≡ true → is_among (delta_of x i ∷ []) (delta_of y j) ≡ (y == x)
  unfolding definitions plan_definitions
  at_same y j h = go (y == x) (j == i) h
    where
      go : (a b : Bool) → b ≡ true → ((a && b) || false) ≡ a
      go true b h = ap (λ v. v || false) h
      go false b h = refl

  -- the terms at sites past site i, and at sites before it
  past : (j n y : ℕ) (f : ℤ) → i < j → are_on (delta_of x i ∷ []) (terms_from j n y f) ≡ false
  unfolding definitions follow_definitions
  past j zero y f h = refl
  past j (suc n) y f h =
      let apart : (j == i) ≡ false = grind (arith, nat_tests, h) in ap₂ ◌||◌ (at_other y j apart) (past (suc j) n y f (omega (arith, h)))

  before : (j n y : ℕ) (f : ℤ) → j + n ≤ i → are_on (delta_of x i ∷ []) (terms_from j n y f) ≡ false
  unfolding definitions follow_definitions
  before j zero y f h = refl
  before j (suc n) y f h =
      let less : j < i = omega (arith, h) in
      let apart : (j == i) ≡ false = grind (arith, nat_tests, less) in ap₂ ◌||◌ (at_other y j apart) (before (suc j) n y f (omega (arith, h)))

  here : (j n y : ℕ) (f : ℤ) → j ≤ i → i < j + n → are_on (delta_of x i ∷ []) (terms_from j n y f) ≡ (y == x)
  unfolding definitions follow_definitions
  here j zero y f h l = absurd (omega (arith, h, l))
  here j (suc n) y f h l = go (here (suc j) n y f) (j == i) refl
    where
      go :
          (suc j ≤ i → i < suc j + n → are_on (delta_of x i ∷ []) (terms_from (suc j) n y f) ≡ (y == x)) → (v : Bool) → (j == i) ≡ v →
          are_on (delta_of x i ∷ []) (terms_from j (suc n) y f) ≡ (y == x)
      go later true q =
          let same : j ≡ i = grind (arith, nat_tests, q) in
          ap₂ ◌||◌ (at_same y j q) (past (suc j) n y f (omega (arith, same))) ∙ or_false (y == x)
      go later false q =
          let less : suc j ≤ i = grind (arith, nat_tests, q, h) in
          ap₂ ◌||◌ (at_other y j q) (later less (omega (arith, l)))

  named : (k : ℕ) → i < k → (ts : List Term) → names_object x ts ≡ are_on (delta_of x i ∷ []) (expanded_terms k ts)
  unfolding definitions follow_definitions
  named k l [] = refl
  named k l (t ∷ ts) =
      ap₂ ◌||◌ (sym (here 0 k t.delta.object t.factor (omega arith) (omega (arith, l)))) (named k l ts)
      ∙ sym (list_any-append (λ (u : Term). is_among (delta_of x i ∷ []) u.delta) (terms_from 0 k t.delta.object t.factor) (expanded_terms k ts))

  none_named : (k : ℕ) → k ≤ i → (ts : List Term) → are_on (delta_of x i ∷ []) (expanded_terms k ts) ≡ false
  unfolding definitions follow_definitions
  none_named k l [] = refl
  none_named k l (t ∷ ts) =
      list_any-append (λ (u : Term). is_among (delta_of x i ∷ []) u.delta) (terms_from 0 k t.delta.object t.factor) (expanded_terms k ts)
      ∙ ap₂ ◌||◌ (before 0 k t.delta.object t.factor (omega (arith, l))) (none_named k l ts)

  pub numbers_named :
      (k : ℕ) → i < k → (m : ℕ) (tss : List (List Term)) (ss : List ℤ) →
      numbers_where (names_object x) m tss ≡ numbers_where (is_touched (delta_of x i ∷ [])) m (map (expanded_clause k) (clauses_with tss ss))
  unfolding definitions follow_definitions outline_definitions
  numbers_named k l m [] ss = refl
  numbers_named k l m (ts ∷ tss) [] = ap₂ (λ v ns. cond v (m ∷ ns) ns) (named k l ts) (numbers_named k l (suc m) tss [])
  numbers_named k l m (ts ∷ tss) (s ∷ ss) = ap₂ (λ v ns. cond v (m ∷ ns) ns) (named k l ts) (numbers_named k l (suc m) tss ss)

  -- where there is no such site
  pub none_touched : (k : ℕ) → k ≤ i → (m : ℕ) (cs : List Clause) → [] ≡ numbers_where (is_touched (delta_of x i ∷ [])) m (map (expanded_clause k) cs)
  unfolding definitions follow_definitions
  none_touched k l m [] = refl
  none_touched k l m (c ∷ cs) =
      ap₂ (λ v ns. cond v (m ∷ ns) ns) (sym (none_named k l c.terms)) (none_touched k l (suc m) cs)
