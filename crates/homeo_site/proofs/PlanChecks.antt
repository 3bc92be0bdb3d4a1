-- What fails first of what stands on the objects that a call wrote is what fails first of the site's whole treaty, where that held before.
use Rattle.std.proofs.Common.{◌≡◌, ◌⊎◌, ℕ, zero, suc, ◌+◌, ◌-◌, ◌<◌, ◌≤◌, ◌==◌, Bool, true, false, cond, not, ◌&&◌, nat_lt, List, [], ◌∷◌, map, length, get_or, ℤ, pos, ◌≤ℤ◌, int_le, Option, Some, None, refl, sym, ap, ap₂, ◌∙◌, subst, inl, inr, ⊎_elim, arith, zero-add}
use Rattle.std.specs.Ordering.{int_eq}
use Rattle.std.proofs.lemmas.Int.{ints}
use Rattle.std.proofs.lemmas.Bool.Decides.{nat_tests}
use Rattle.homeo_syntax.specs.Listed.{Listed}
use Rattle.homeo_plan.specs.Key.{definitions as plan_definitions}
use Rattle.homeo_plan.specs.declared.treaty.Broken.{Broken}
use Rattle.homeo_plan.specs.declared.forms.Delta.{Delta}
use Rattle.homeo_plan.specs.declared.forms.Term.{Term}
use Rattle.homeo_plan.specs.Joined.{Deltas}
use Rattle.homeo_plan.specs.Linear.{delta_of}
use Rattle.homeo_plan.specs.Template.{Clause, Template}
use Rattle.homeo_plan.specs.Config.{Config}
use Rattle.homeo_plan.specs.Treaty.{site_sum, bound_at, KeepsClauses, KeepsFreezes, Treaty, broken_freeze, broken_from, finding}
use Rattle.homeo_outline.specs.Numbers.{has, clauses_on, freezes_on}
use Rattle.homeo_outline.specs.ObjectPlan.{template_in, config_in}
use Rattle.homeo_outline.specs.Outlined.{Outlined}
use Rattle.homeo_outline.specs.declared.plan.ObjectPlan.{ObjectPlan}
use Rattle.homeo_site.specs.Earliest.{IsEarliest, earlier}
use Rattle.homeo_site.specs.Key.{definitions}
use Rattle.homeo_site.specs.inner.Failures.{clause_number, sum_failure, frozen_failure, freeze_failure, freeze_failure_from, failure_from, failure_at, own_failure, own_freeze_failure}
use Rattle.homeo_site.specs.inner.PlanFailures.{plan_failure}
use Rattle.homeo_site.specs.OwnTreaty.{OwnClause, own_sum, own_clauses}
use Rattle.homeo_site.specs.StandsOn.{StandsOn, StandsOnOne}
use Rattle.homeo_site.proofs.Earliest.{Within, passed_one, found_one, same_earliest, earliest_alike}
use Rattle.homeo_site.proofs.OnObjects.{clause_stands, freeze_stands, on_all, first_is, freezes_are, on_object}
use Rattle.homeo_site.proofs.OwnTerms.{own_sum_is}
use Rattle.homeo_site.proofs.PlanClauses.{own_is}
use Rattle.homeo_site.proofs.StepFindings.{clause_at, freeze_at, past_clauses}

-- ---- what fails has its number
module _ (n : ℕ) (b : Broken) where
  sum_named : (sum bound : ℤ) → sum_failure n sum bound ≡ Some b → b.clause ≡ n
  unfolding definitions
  sum_named sum bound = go (int_le sum bound)
    where
      go : (v : Bool) → cond v None (Some (record { clause = n; sum = sum; bound = bound })) ≡ Some b → b.clause ≡ n
      go true e = cc
      go false e = let same : Some (record { clause = n; sum = sum; bound = bound }) ≡ Some b = e in cc

  pub clause_named : (cs : List OwnClause) (x : Deltas) → own_failure cs x n ≡ Some b → b.clause ≡ n
  unfolding definitions
  clause_named cs x =
      let c : OwnClause = get_or cs n (record { terms = []; bound = pos 0 }) in sum_named (own_sum c.terms x) c.bound

  freeze_named : (i : ℕ) (x : Deltas) (d : Delta) → freeze_failure n i x d ≡ Some b → b.clause ≡ n
  unfolding definitions
  freeze_named i x d = go (d.site == i) (int_eq (x d.object) (pos 0))
    where
      go : (u v : Bool) → cond u (cond v None (Some (record { clause = n; sum = x d.object; bound = pos 0 }))) None ≡ Some b → b.clause ≡ n
      go true true e = cc
      go true false e = let same : Some (record { clause = n; sum = x d.object; bound = pos 0 }) ≡ Some b = e in cc
      go false v e = cc

  pub frozen_named : (k i : ℕ) (ds : List Delta) (x : Deltas) → own_freeze_failure k i ds x n ≡ Some b → b.clause ≡ n
  unfolding definitions
  frozen_named k i ds x = freeze_named i x _

-- ---- what fails first of all is what fails earliest of all numbers
module _ (f : ℕ → Option Broken) (i : ℕ) (y : Deltas) where
  freezes_earliest :
      (k : ℕ) (ds : List Delta) → ((m : ℕ) → f (k + m) ≡ freeze_failure_from k i y ds m) → IsEarliest clause_number f (Within k (length ds)) (broken_freeze k i y ds)
  unfolding definitions plan_definitions
  freezes_earliest k [] agree = λ n h. absurd (omega (arith, h.0, h.1))
  freezes_earliest k (d ∷ ds) agree =
      go (d.site == i) (int_eq (y d.object) (pos 0)) (ap f zero_on ∙ agree 0) (freezes_earliest (suc k) ds (λ m. ap f (next m) ∙ agree (suc m)))
    where
      zero_on : k ≡ k + 0
      zero_on = omega arith

      next : (m : ℕ) → suc k + m ≡ k + suc m
      next m = omega arith

      one : Broken
      one = record { clause = k; sum = y d.object; bound = pos 0 }

      go :
          (u v : Bool) → f k ≡ cond u (cond v None (Some one)) None → IsEarliest clause_number f (Within (suc k) (length ds)) (broken_freeze (suc k) i y ds) →
          IsEarliest clause_number f (Within k (suc (length ds))) (cond (u && not v) (Some one) (broken_freeze (suc k) i y ds))
      go false v e ih = passed_one clause_number f k (length ds) _ e ih
      go true true e ih = passed_one clause_number f k (length ds) _ e ih
      go true false e ih = found_one clause_number f k (length ds) one refl e

  clauses_earliest :
      (x : Deltas) (k : ℕ) (cs : List Clause) (bs : Config) (ds : List Delta) → ((m : ℕ) → f (k + m) ≡ failure_from k i y cs bs ds m) →
      KeepsClauses i x cs bs → IsEarliest clause_number f (Within k (length cs + length ds)) (broken_from k i y cs bs ds)
  unfolding definitions plan_definitions
  clauses_earliest x k [] bs ds agree keeps =
      let none : length ds ≡ 0 + length ds = omega arith in
      subst (λ n. IsEarliest clause_number f (Within k n) (broken_freeze k i y ds)) none (freezes_earliest k ds agree)
  clauses_earliest x k (c ∷ cs) [] ds agree keeps = absurd keeps
  clauses_earliest x k (c ∷ cs) (b ∷ bs) ds agree keeps =
      subst (λ n. IsEarliest clause_number f (Within k n) (broken_from k i y (c ∷ cs) (b ∷ bs) ds)) count
      (go (int_le (site_sum i c.terms y) (bound_at b i)) (ap f zero_on ∙ agree 0)
      (clauses_earliest x (suc k) cs bs ds (λ m. ap f (next m) ∙ agree (suc m)) keeps.1))
    where
      count : suc (length cs + length ds) ≡ suc (length cs) + length ds
      count = omega arith

      zero_on : k ≡ k + 0
      zero_on = omega arith

      next : (m : ℕ) → suc k + m ≡ k + suc m
      next m = omega arith

      one : Broken
      one = record { clause = k; sum = site_sum i c.terms y; bound = bound_at b i }

      go :
          (v : Bool) → f k ≡ cond v None (Some one) → IsEarliest clause_number f (Within (suc k) (length cs + length ds)) (broken_from (suc k) i y cs bs ds) →
          IsEarliest clause_number f (Within k (suc (length cs + length ds))) (cond v (broken_from (suc k) i y cs bs ds) (Some one))
      go true e ih = passed_one clause_number f k (length cs + length ds) _ e ih
      go false e ih = found_one clause_number f k (length cs + length ds) one refl e

-- ---- what the clauses and freezes say of a number
kept_at :
    (i : ℕ) (x : Deltas) (cs : List Clause) (bs : Config) (n : ℕ) (d : OwnClause) → KeepsClauses i x cs bs → n < length cs →
    own_sum (get_or (own_clauses i cs bs) n d).terms x ≤ℤ (get_or (own_clauses i cs bs) n d).bound
unfolding definitions plan_definitions
kept_at i x [] bs n d keeps lt = absurd (omega (arith, lt))
kept_at i x (c ∷ cs) [] n d keeps lt = absurd keeps
kept_at i x (c ∷ cs) (b ∷ bs) zero d keeps lt = subst (λ z. z ≤ℤ bound_at b i) (sym (own_sum_is i c.terms x)) keeps.0
kept_at i x (c ∷ cs) (b ∷ bs) (suc n) d keeps lt = kept_at i x cs bs n d keeps.1 (omega (arith, lt))

frozen_at : (i : ℕ) (x : Deltas) (ds : List Delta) (m : ℕ) (e : Delta) → KeepsFreezes i x ds → m < length ds → (get_or ds m e).site ≡ i → x (get_or ds m e).object ≡ pos 0
unfolding plan_definitions
frozen_at i x [] m e keeps lt = absurd (omega (arith, lt))
frozen_at i x (d ∷ ds) zero e keeps lt = keeps.0
frozen_at i x (d ∷ ds) (suc m) e keeps lt = frozen_at i x ds m e keeps.1 (omega (arith, lt))

nothing_above : (n : ℕ) (sum bound : ℤ) → sum ≤ℤ bound → sum_failure n sum bound ≡ None
unfolding definitions
nothing_above n sum bound h =
    let le : int_le sum bound ≡ true = grind (arith, ints, h) in ap (λ v. cond v None (Some (record { clause = n; sum = sum; bound = bound }))) le

nothing_frozen : (n i : ℕ) (y : Deltas) (d : Delta) → (d.site ≡ i → y d.object ≡ pos 0) → freeze_failure n i y d ≡ None
unfolding definitions
nothing_frozen n i y d h = go (d.site == i) refl
  where
    go : (v : Bool) → (d.site == i) ≡ v → cond v (frozen_failure n (y d.object)) None ≡ None
    go true e = let s : d.site ≡ i = grind (arith, nat_tests) in ap (frozen_failure n) (h s)
    go false e = refl

-- ---- a plan, whose treaty held of x, and y after a call
module _ (p : ObjectPlan) (i : ℕ) (site : i < p.outline.value.sites) (x y : Deltas) (keeps : Treaty (template_in p) (config_in p) i x) where
  abbrev t : Template
  t = template_in p

  abbrev cs : List OwnClause
  cs = own_clauses i t.clauses (config_in p)

  abbrev all : ℕ
  all = length t.clauses + length t.freezes

  no_clause : OwnClause
  no_clause = record { terms = []; bound = pos 0 }

  plan_fails : (n : ℕ) → n < all → plan_failure p i y n ≡ failure_at t (config_in p) i y n
  unfolding definitions
  plan_fails n lt = go (nat_lt n (length t.clauses)) refl
    where
      go :
          (v : Bool) → nat_lt n (length t.clauses) ≡ v →
          cond v (own_failure cs y n) (own_freeze_failure (length t.clauses) i t.freezes y n) ≡ failure_at t (config_in p) i y n
      go true e =
          let less : n < length t.clauses = grind (arith, nat_tests, e) in
          let from : n ≡ 0 + n = omega arith in
          ap (λ m. sum_failure m (own_sum (get_or cs n (record { terms = []; bound = pos 0 })).terms y) (get_or cs n (record { terms = []; bound = pos 0 })).bound) from
          ∙ clause_at 0 i x y t.clauses (config_in p) t.freezes n keeps.clauses less
      go false e =
          let past : n < length t.clauses → ⊥ = λ less. grind (arith, nat_tests, e, less) in
          let less : n - length t.clauses < length t.freezes = omega (arith, past, lt) in
          let label : n ≡ length t.clauses + (n - length t.clauses) = omega (arith, past) in
          let from : length t.clauses ≡ 0 + length t.clauses = omega arith in
          ap (λ j. freeze_failure j i y (get_or t.freezes (n - length t.clauses) (delta_of 0 0))) label
          ∙ freeze_at (length t.clauses) i y t.freezes (n - length t.clauses) less
          ∙ ap (λ j. freeze_failure_from j i y t.freezes (n - length t.clauses)) from
          ∙ past_clauses 0 i x y t.clauses (config_in p) t.freezes (n - length t.clauses) keeps.clauses
          ∙ ap (failure_from 0 i y t.clauses (config_in p) t.freezes) (sym label)

  -- nothing fails of what stands on no object that the call wrote
  module _ (ws : List ℕ) (same : (n : ℕ) → has n ws ≡ false → y n ≡ x n) where
    silent : (n : ℕ) → n < all → StandsOnOne p ws (length ws) n ⊎ (plan_failure p i y n ≡ None)
    unfolding definitions
    silent n lt = go (nat_lt n (length t.clauses)) refl
      where
        go :
            (v : Bool) → nat_lt n (length t.clauses) ≡ v →
            StandsOnOne p ws (length ws) n ⊎ (cond v (own_failure cs y n) (own_freeze_failure (length t.clauses) i t.freezes y n) ≡ None)
        go true e =
            let less : n < length t.clauses = grind (arith, nat_tests, e) in
            let is = own_is p n less i site (record { terms = []; bound = pos 0 }) in
            let kept = kept_at i x t.clauses (config_in p) n (record { terms = []; bound = pos 0 }) keeps.clauses less in
            ⊎_elim (λ a. inl a)
            (λ s. inr (nothing_above n _ _
            (subst (λ z. z ≤ℤ (get_or cs n (record { terms = []; bound = pos 0 })).bound)
            (ap (λ (o : OwnClause). own_sum o.terms x) is ∙ sym s ∙ sym (ap (λ (o : OwnClause). own_sum o.terms y) is)) kept)))
            (clause_stands p x y ws same n less)
        go false e =
            let past : n < length t.clauses → ⊥ = λ less. grind (arith, nat_tests, e, less) in
            let less : n - length t.clauses < length t.freezes = omega (arith, past, lt) in
            ⊎_elim (λ a. inl a)
            (λ s. inr (nothing_frozen n i y (get_or t.freezes (n - length t.clauses) (delta_of 0 0))
            (λ here. s ∙ frozen_at i x t.freezes (n - length t.clauses) (delta_of 0 0) keeps.freezes less here)))
            (freeze_stands p x y ws same n past lt)

    -- so the earliest failure of what stands on them is the finding
    pub finding_of :
        (k : ℕ) → length ws ≤ k → (o : Option Broken) → IsEarliest clause_number (plan_failure p i y) (StandsOnOne p ws k) o →
        o ≡ finding t (config_in p) i y
    unfolding definitions plan_definitions
    finding_of k le o h =
        same_earliest clause_number (failure_at t (config_in p) i y) (Within 0 all) o _
        (earliest_alike clause_number (plan_failure p i y) (failure_at t (config_in p) i y) (Within 0 all) o (λ n l. plan_fails n (omega (arith, l.1)))
        (on_all p clause_number (plan_failure p i y) ws k le silent o h))
        (clauses_earliest (failure_at t (config_in p) i y) i y x 0 t.clauses (config_in p) t.freezes (λ m. ap (failure_at t (config_in p) i y) (zero-add m)) keeps.clauses)

-- ---- what fails earliest of what stands on an object
module _
    (p : ObjectPlan) (i : ℕ) (y : Deltas) (object : ℕ) (o : Outlined) (cl fr : List ℕ) (ds : List Delta) (ls : List (Listed Term)) (is : o ≡ p.outline.value)
    (frozen : (n : ℕ) → has n fr ≡ has n (freezes_on object (length o.terms) o.freezes)) (freezes : ds ≡ o.freezes)
    (terms : map (λ (l : Listed Term). l.items) ls ≡ o.terms)
  where
    abbrev kept : List OwnClause
    kept = own_clauses i (template_in p).clauses (config_in p)

    clause_alike : (n : ℕ) → n < length (template_in p).clauses → own_failure kept y n ≡ plan_failure p i y n
    clause_alike n less =
        let below : nat_lt n (length (template_in p).clauses) ≡ true = grind (arith, nat_tests, less) in
        ap (λ v. cond v (own_failure kept y n) (own_freeze_failure (length (template_in p).clauses) i (template_in p).freezes y n)) (sym below)

    freeze_alike : (n : ℕ) → (n < length (template_in p).clauses → ⊥) → own_freeze_failure (length ls) i ds y n ≡ plan_failure p i y n
    freeze_alike n past =
        let above : nat_lt n (length (template_in p).clauses) ≡ false = grind (arith, nat_tests, past) in
        ap₂ (λ m (l : List Delta). own_freeze_failure m i l y n) (first_is p object o cl fr ds ls is frozen freezes terms)
        (freezes_are p object o cl fr ds ls is frozen freezes terms)
        ∙ ap (λ v. cond v (own_failure kept y n) (own_freeze_failure (length (template_in p).clauses) i (template_in p).freezes y n)) (sym above)

    pub fails_on :
        ((n : ℕ) → has n cl ≡ has n (clauses_on object o.terms)) →
        (a b both : Option Broken) → IsEarliest clause_number (own_failure kept y) (λ n. has n cl ≡ true) a →
        IsEarliest clause_number (own_freeze_failure (length ls) i ds y) (λ n. has n fr ≡ true) b → both ≡ earlier clause_number a b →
        IsEarliest clause_number (plan_failure p i y) (StandsOn p object) both
    fails_on named =
        on_object p object o cl fr ds ls is frozen freezes terms clause_number (own_failure kept y) (own_freeze_failure (length ls) i ds y) (plan_failure p i y)
        named clause_alike freeze_alike
