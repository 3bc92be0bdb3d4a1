-- What stops a visit first of what stands on the objects that its call wrote is what stops it first of all.
use Rattle.std.proofs.Common.{◌≡◌, ◌⊎◌, inl, inr, ⊎_elim, ℕ, zero, suc, ◌+◌, ◌-◌, ◌<◌, ◌≤◌, ◌==◌, nat_lt, Bool, true, false, cond, not, ◌&&◌, List, [], ◌∷◌, ◌++◌, map, length, get_or, ℤ, pos, int_le, ◌≤ℤ◌, Option, Some, None, refl, sym, ap, ap₂, ◌∙◌, subst, arith}
use Rattle.std.specs.Ordering.{int_eq}
use Rattle.std.proofs.lemmas.Int.{ints}
use Rattle.std.proofs.lemmas.Bool.Decides.{nat_tests}
use Rattle.std.proofs.lemmas.List.{get_or_default}
use Rattle.homeo_syntax.specs.Listed.{Listed}
use Rattle.homeo_plan.specs.Key.{definitions as plan_definitions}
use Rattle.homeo_plan.specs.Config.{total}
use Rattle.homeo_plan.specs.declared.forms.Delta.{Delta}
use Rattle.homeo_plan.specs.declared.forms.Term.{Term}
use Rattle.homeo_plan.specs.Joined.{Deltas}
use Rattle.homeo_plan.specs.Linear.{delta_of}
use Rattle.homeo_plan.specs.Template.{Clause, Template}
use Rattle.homeo_plan.specs.Treaty.{site_sum, KeepsFreezes}
use Rattle.homeo_outline.specs.Numbers.{has, clauses_on, freezes_on}
use Rattle.homeo_outline.specs.ObjectPlan.{template_in}
use Rattle.homeo_outline.specs.Outlined.{Outlined}
use Rattle.homeo_outline.specs.declared.plan.ObjectPlan.{ObjectPlan}
use Rattle.homeo_site.specs.Earliest.{IsEarliest, earlier}
use Rattle.homeo_site.specs.StandsOn.{StandsOn, StandsOnOne}
use Rattle.homeo_site.proofs.Earliest.{Within, none_looked, passed_one, found_one, same_earliest}
use Rattle.homeo_site.proofs.OnObjects.{clause_stands, freeze_stands, on_all, first_is, freezes_are, on_object}
use Rattle.homeo_site.proofs.PlanClauses.{sum_is}
use Rattle.homeo_forecast.specs.Key.{definitions}
use Rattle.homeo_forecast.specs.Peaks.{Stop, Spent, Frozen, peak, peaks, frozen_from, stop_from, first_stop}
use Rattle.homeo_forecast.specs.Visits.{Visit}
use Rattle.homeo_forecast.specs.inner.Stops.{stop_number, clause_stop, clause_stop_at, freeze_stop, freeze_stop_at, plan_stop, StandsAfter}
use Rattle.homeo_forecast.proofs.Lists.{each_there}
use Rattle.homeo_forecast.proofs.Raised.{peaks_idle}

-- ---- what stops has its number
module _ (n : ℕ) (s : Stop) where
  pub clause_numbered : (k : ℕ) (us : List Visit) (cs : List Clause) → clause_stop_at k us cs n ≡ Some s → stop_number s ≡ n
  unfolding definitions
  clause_numbered k us cs =
      let c : Clause = get_or cs n (record { terms = []; slack = pos 0 }) in go c (int_le (total (peaks k us c)) c.slack)
    where
      go : (c : Clause) (v : Bool) → cond v None (Some (Spent n (peaks k us c) c.slack)) ≡ Some s → stop_number s ≡ n
      go c true e = cc
      go c false e = let same : Spent n (peaks k us c) c.slack ≡ s = cc in ap stop_number (sym same)

  pub freeze_numbered : (first i : ℕ) (x : Deltas) (ds : List Delta) → freeze_stop_at first i x ds n ≡ Some s → stop_number s ≡ n
  unfolding definitions
  freeze_numbered first i x ds =
      let d : Delta = get_or ds (n - first) (delta_of 0 0) in go d ((d.site == i) && not (int_eq (x d.object) (pos 0)))
    where
      go : (d : Delta) (v : Bool) → cond v (Some (Frozen n d (x d.object))) None ≡ Some s → stop_number s ≡ n
      go d true e = let same : Frozen n d (x d.object) ≡ s = cc in ap stop_number (sym same)
      go d false e = cc

-- ---- what stops first of all is what stops earliest of all numbers
module _ (f : ℕ → Option Stop) where
  freezes_first :
      (i : ℕ) (x : Deltas) (n : ℕ) (ds : List Delta) →
      ((m : ℕ) (d : Delta) → m < length ds → f (n + m) ≡ freeze_stop (n + m) i x (get_or ds m d)) →
      IsEarliest stop_number f (Within n (length ds)) (frozen_from n i x ds)
  unfolding definitions plan_definitions
  freezes_first i x n [] agree = none_looked stop_number f (Within n 0) (λ m h. omega (arith, h.0, h.1))
  freezes_first i x n (d ∷ ds) agree = go ((d.site == i) && not (int_eq (x d.object) (pos 0))) here (freezes_first i x (suc n) ds next)
    where
      here : f n ≡ freeze_stop n i x d
      here = let e : n ≡ n + 0 = omega arith in ap f e ∙ agree 0 d (omega arith) ∙ ap (λ j. freeze_stop j i x d) (sym e)

      next : (m : ℕ) (e : Delta) → m < length ds → f (suc n + m) ≡ freeze_stop (suc n + m) i x (get_or ds m e)
      next m e lt =
          let q : suc n + m ≡ n + suc m = omega arith in
          ap f q ∙ agree (suc m) e (omega arith) ∙ ap (λ j. freeze_stop j i x (get_or ds m e)) (sym q)

      go :
          (v : Bool) → f n ≡ cond v (Some (Frozen n d (x d.object))) None →
          IsEarliest stop_number f (Within (suc n) (length ds)) (frozen_from (suc n) i x ds) →
          IsEarliest stop_number f (Within n (suc (length ds))) (cond v (Some (Frozen n d (x d.object))) (frozen_from (suc n) i x ds))
      go true e ih = found_one stop_number f n (length ds) (Frozen n d (x d.object)) refl e
      go false e ih = passed_one stop_number f n (length ds) (frozen_from (suc n) i x ds) e ih

  stops_first :
      (k : ℕ) (us : List Visit) (v : Visit) (n : ℕ) (cs : List Clause) (ds : List Delta) →
      ((m : ℕ) (c : Clause) → m < length cs → f (n + m) ≡ clause_stop k us (n + m) (get_or cs m c)) →
      ((m : ℕ) (d : Delta) → m < length ds → f (n + length cs + m) ≡ freeze_stop (n + length cs + m) v.site v.deltas (get_or ds m d)) →
      IsEarliest stop_number f (Within n (length cs + length ds)) (stop_from n k us v cs ds)
  unfolding definitions plan_definitions
  stops_first k us v n [] ds clauses freezes =
      let none : length ds ≡ 0 + length ds = omega arith in
      subst (λ m. IsEarliest stop_number f (Within n m) (frozen_from n v.site v.deltas ds)) none (freezes_first v.site v.deltas n ds frozen)
    where
      frozen : (m : ℕ) (d : Delta) → m < length ds → f (n + m) ≡ freeze_stop (n + m) v.site v.deltas (get_or ds m d)
      frozen m d lt =
          let q : n + m ≡ n + 0 + m = omega arith in
          ap f q ∙ freezes m d lt ∙ ap (λ j. freeze_stop j v.site v.deltas (get_or ds m d)) (sym q)
  stops_first k us v n (c ∷ cs) ds clauses freezes =
      subst (λ m. IsEarliest stop_number f (Within n m) (stop_from n k us v (c ∷ cs) ds)) count
      (go (int_le (total (peaks k us c)) c.slack) here (stops_first k us v (suc n) cs ds next frozen))
    where
      count : suc (length cs + length ds) ≡ suc (length cs) + length ds
      count = omega arith

      one : Stop
      one = Spent n (peaks k us c) c.slack

      here : f n ≡ clause_stop k us n c
      here = let e : n ≡ n + 0 = omega arith in ap f e ∙ clauses 0 c (omega arith) ∙ ap (λ j. clause_stop k us j c) (sym e)

      next : (m : ℕ) (e : Clause) → m < length cs → f (suc n + m) ≡ clause_stop k us (suc n + m) (get_or cs m e)
      next m e lt =
          let q : suc n + m ≡ n + suc m = omega arith in
          ap f q ∙ clauses (suc m) e (omega arith) ∙ ap (λ j. clause_stop k us j (get_or cs m e)) (sym q)

      frozen : (m : ℕ) (d : Delta) → m < length ds → f (suc n + length cs + m) ≡ freeze_stop (suc n + length cs + m) v.site v.deltas (get_or ds m d)
      frozen m d lt =
          let q : suc n + length cs + m ≡ n + suc (length cs) + m = omega arith in
          ap f q ∙ freezes m d lt ∙ ap (λ j. freeze_stop j v.site v.deltas (get_or ds m d)) (sym q)

      go :
          (b : Bool) → f n ≡ cond b None (Some one) → IsEarliest stop_number f (Within (suc n) (length cs + length ds)) (stop_from (suc n) k us v cs ds) →
          IsEarliest stop_number f (Within n (suc (length cs + length ds))) (cond b (stop_from (suc n) k us v cs ds) (Some one))
      go true e ih = passed_one stop_number f n (length cs + length ds) (stop_from (suc n) k us v cs ds) e ih
      go false e ih = found_one stop_number f n (length cs + length ds) one refl e

-- ---- by a plan
at_most : (a b : ℤ) → a ≤ℤ b → int_le a b ≡ true
at_most a b h = grind (arith, ints)

freeze_at : (i : ℕ) (x : Deltas) (ds : List Delta) (m : ℕ) (e : Delta) → KeepsFreezes i x ds → m < length ds → (get_or ds m e).site ≡ i → x (get_or ds m e).object ≡ pos 0
unfolding plan_definitions
freeze_at i x [] m e keeps lt = absurd (omega (arith, lt))
freeze_at i x (d ∷ ds) zero e keeps lt = keeps.0
freeze_at i x (d ∷ ds) (suc m) e keeps lt = freeze_at i x ds m e keeps.1 (omega (arith, lt))

not_frozen : (n i : ℕ) (y : Deltas) (d : Delta) → (d.site ≡ i → y d.object ≡ pos 0) → freeze_stop n i y d ≡ None
unfolding definitions
not_frozen n i y d h = go (d.site == i) refl
  where
    go : (b : Bool) → (d.site == i) ≡ b → cond (b && not (int_eq (y d.object) (pos 0))) (Some (Frozen n d (y d.object))) None ≡ None
    go true q =
        let there : d.site ≡ i = grind (arith, nat_tests) in
        ap (λ z. cond (not (int_eq z (pos 0))) (Some (Frozen n d (y d.object))) None) (h there)
    go false q = refl

module _ (p : ObjectPlan) (vs : List Visit) (v : Visit) where
  abbrev k : ℕ
  k = p.outline.value.sites

  abbrev t : Template
  t = template_in p

  abbrev us : List Visit
  us = vs ++ v ∷ []

  clause_is : (n : ℕ) → n < length t.clauses → clause_stop_at k us t.clauses n ≡ plan_stop p us v n
  unfolding definitions
  clause_is n lt =
      let below : nat_lt n (length t.clauses) ≡ true = grind (arith, nat_tests, lt) in
      ap (λ b. cond b (clause_stop_at k us t.clauses n) (freeze_stop_at (length t.clauses) v.site v.deltas t.freezes n)) (sym below)

  freeze_is : (n : ℕ) → (n < length t.clauses → ⊥) → freeze_stop_at (length t.clauses) v.site v.deltas t.freezes n ≡ plan_stop p us v n
  unfolding definitions
  freeze_is n past =
      let above : nat_lt n (length t.clauses) ≡ false = grind (arith, nat_tests, past) in
      ap (λ b. cond b (clause_stop_at k us t.clauses n) (freeze_stop_at (length t.clauses) v.site v.deltas t.freezes n)) (sym above)

  all_first : IsEarliest stop_number (plan_stop p us v) (Within 0 (length t.clauses + length t.freezes)) (first_stop k t vs v)
  unfolding definitions plan_definitions
  all_first = stops_first (plan_stop p us v) k us v 0 t.clauses t.freezes clauses freezes
    where
      clauses : (m : ℕ) (c : Clause) → m < length t.clauses → plan_stop p us v (0 + m) ≡ clause_stop k us (0 + m) (get_or t.clauses m c)
      clauses m c lt =
          let q : 0 + m ≡ m = omega arith in
          ap (plan_stop p us v) q ∙ sym (clause_is m lt)
          ∙ ap (λ (d : Clause). clause_stop k us m d) (get_or_default t.clauses m (record { terms = []; slack = pos 0 }) c lt)
          ∙ ap (λ j. clause_stop k us j (get_or t.clauses m c)) (sym q)

      freezes : (m : ℕ) (d : Delta) → m < length t.freezes →
          plan_stop p us v (0 + length t.clauses + m) ≡ freeze_stop (0 + length t.clauses + m) v.site v.deltas (get_or t.freezes m d)
      freezes m d lt =
          let past : 0 + length t.clauses + m < length t.clauses → ⊥ = λ less. omega (arith, less) in
          let back : (0 + length t.clauses + m) - length t.clauses ≡ m = omega arith in
          sym (freeze_is (0 + length t.clauses + m) past)
          ∙ ap (λ j. freeze_stop (0 + length t.clauses + m) v.site v.deltas (get_or t.freezes j (delta_of 0 0))) back
          ∙ ap (λ (e : Delta). freeze_stop (0 + length t.clauses + m) v.site v.deltas e) (get_or_default t.freezes m (delta_of 0 0) d lt)

  -- ---- where v leaves all but the objects ws as they were, at x
  module _
      (below : v.site < k) (x : Deltas) (ws : List ℕ) (same : (n : ℕ) → has n ws ≡ false → v.deltas n ≡ x n) (stands : StandsAfter p vs v.site x)
    where
      -- the sum of a clause that names none of them is no higher than the site's peak
      pub clause_low :
          (n : ℕ) (c : Clause) → n < length t.clauses →
          StandsOnOne p ws (length ws) n ⊎ (site_sum v.site (get_or t.clauses n c).terms v.deltas ≤ℤ peak (get_or t.clauses n c).terms v.site vs)
      clause_low n c lt =
          ⊎_elim (λ s. inl s)
          (λ e. inr (subst (λ z. z ≤ℤ peak (get_or t.clauses n c).terms v.site vs)
          (sym (sum_is p n lt v.site below x c) ∙ sym e ∙ sum_is p n lt v.site below v.deltas c) (stands.low (get_or t.clauses n c))))
          (clause_stands p x v.deltas ws same n lt)

      clause_silent : (n : ℕ) → n < length t.clauses → StandsOnOne p ws (length ws) n ⊎ (clause_stop_at k us t.clauses n ≡ None)
      unfolding definitions plan_definitions
      clause_silent n lt =
          let c : Clause = get_or t.clauses n (record { terms = []; slack = pos 0 }) in
          ⊎_elim (λ s. inl s)
          (λ low. inr (ap (λ b. cond b None (Some (Spent n (peaks k us c) c.slack)))
          (at_most (total (peaks k us c)) c.slack
          (subst (λ ps. total ps ≤ℤ c.slack) (sym (peaks_idle k vs v c below low))
          (each_there (λ (d : Clause). total (peaks k vs d) ≤ℤ d.slack) t.clauses n (record { terms = []; slack = pos 0 }) lt stands.fit)))))
          (clause_low n (record { terms = []; slack = pos 0 }) lt)

      freeze_silent :
          (n : ℕ) → (n < length t.clauses → ⊥) → n < length t.clauses + length t.freezes →
          StandsOnOne p ws (length ws) n ⊎ (freeze_stop_at (length t.clauses) v.site v.deltas t.freezes n ≡ None)
      unfolding definitions
      freeze_silent n past lt =
          let less : n - length t.clauses < length t.freezes = omega (arith, past, lt) in
          ⊎_elim (λ s. inl s)
          (λ e. inr (not_frozen n v.site v.deltas (get_or t.freezes (n - length t.clauses) (delta_of 0 0))
          (λ here. e ∙ freeze_at v.site x t.freezes (n - length t.clauses) (delta_of 0 0) stands.freezes less here)))
          (freeze_stands p x v.deltas ws same n past lt)

      silent : (n : ℕ) → n < length t.clauses + length t.freezes → StandsOnOne p ws (length ws) n ⊎ (plan_stop p us v n ≡ None)
      silent n lt = go (nat_lt n (length t.clauses)) refl
        where
          go : (b : Bool) → nat_lt n (length t.clauses) ≡ b → StandsOnOne p ws (length ws) n ⊎ (plan_stop p us v n ≡ None)
          go true e =
              let less : n < length t.clauses = grind (arith, nat_tests, e) in
              ⊎_elim (λ s. inl s) (λ none. inr (sym (clause_is n less) ∙ none)) (clause_silent n less)
          go false e =
              let past : n < length t.clauses → ⊥ = λ less. grind (arith, nat_tests, e, less) in
              ⊎_elim (λ s. inl s) (λ none. inr (sym (freeze_is n past) ∙ none)) (freeze_silent n past lt)

      -- so what stops earliest of what stands on them stops first
      pub first_of_all :
          (i : ℕ) → length ws ≤ i → (o : Option Stop) → IsEarliest stop_number (plan_stop p us v) (StandsOnOne p ws i) o → o ≡ first_stop k t vs v
      first_of_all i le o h =
          same_earliest stop_number (plan_stop p us v) (Within 0 (length t.clauses + length t.freezes)) o (first_stop k t vs v)
          (on_all p stop_number (plan_stop p us v) ws i le silent o h) all_first

  -- ---- what stops earliest of what stands on an object
  pub stops_on :
      (object : ℕ) (o : Outlined) (cl fr : List ℕ) (ds : List Delta) (ls : List (Listed Term)) → o ≡ p.outline.value →
      ((n : ℕ) → has n fr ≡ has n (freezes_on object (length o.terms) o.freezes)) → ds ≡ o.freezes → map (λ (l : Listed Term). l.items) ls ≡ o.terms →
      ((n : ℕ) → has n cl ≡ has n (clauses_on object o.terms)) → (a b both : Option Stop) →
      IsEarliest stop_number (clause_stop_at k us t.clauses) (λ n. has n cl ≡ true) a →
      IsEarliest stop_number (freeze_stop_at (length ls) v.site v.deltas ds) (λ n. has n fr ≡ true) b → both ≡ earlier stop_number a b →
      IsEarliest stop_number (plan_stop p us v) (StandsOn p object) both
  stops_on object o cl fr ds ls is frozen freezes terms named =
      on_object p object o cl fr ds ls is frozen freezes terms stop_number (clause_stop_at k us t.clauses)
      (freeze_stop_at (length ls) v.site v.deltas ds) (plan_stop p us v) named clause_is
      (λ n past. ap₂ (λ m l. freeze_stop_at m v.site v.deltas l n) (first_is p object o cl fr ds ls is frozen freezes terms)
      (freezes_are p object o cl fr ds ls is frozen freezes terms) ∙ freeze_is n past)
