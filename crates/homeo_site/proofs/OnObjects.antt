-- What of a plan stands on the objects of a list, and what is earliest of it.
use Rattle.std.proofs.Common.{◌≡◌, ◌⊎◌, ℕ, ◌+◌, ◌-◌, ◌<◌, ◌≤◌, ◌==◌, Bool, true, false, nat_lt, List, [], ◌∷◌, map, length, get_or, ◌+ℤ◌, ◌*ℤ◌, All, Option, None, refl, sym, ap, ap₂, ◌∙◌, subst, inl, inr, ⊎_elim, arith}
use Rattle.std.specs.Prelude.{◌||◌}
use Rattle.std.proofs.lemmas.Bool.Decides.{nat_tests}
use Rattle.std.proofs.lemmas.List.{length-map}
use Rattle.std.proofs.lemmas.Bool.{or_right}
use Rattle.homeo_syntax.specs.Listed.{Listed}
use Rattle.homeo_plan.specs.declared.forms.Delta.{Delta}
use Rattle.homeo_plan.specs.declared.forms.Term.{Term}
use Rattle.homeo_plan.specs.Joined.{Deltas}
use Rattle.homeo_plan.specs.Linear.{delta_of}
use Rattle.homeo_plan.specs.Template.{Template}
use Rattle.homeo_outline.specs.Numbers.{has, numbers_where, names_object, clauses_on, freezes_on}
use Rattle.homeo_outline.specs.ObjectPlan.{template_in}
use Rattle.homeo_outline.specs.Outlined.{Outlined}
use Rattle.homeo_outline.specs.declared.plan.ObjectPlan.{ObjectPlan}
use Rattle.homeo_outline.proofs.Numbers.{numbered, has_number}
use Rattle.homeo_site.specs.Earliest.{IsEarliest, earlier}
use Rattle.homeo_site.specs.Key.{definitions}
use Rattle.homeo_site.specs.OwnTreaty.{own_term, own_sum}
use Rattle.homeo_site.specs.StandsOn.{StandsOn, StandsOnOne}
use Rattle.homeo_site.proofs.Earliest.{Within, none_looked, both_looked, more_looked, earliest_alike}
use Rattle.homeo_site.proofs.Numbered.{placed, number_within, all_of_has}
use Rattle.homeo_site.proofs.OwnChecks.{template_freezes}
use Rattle.homeo_site.proofs.PlanClauses.{template_count}

-- one of the objects is named by the terms
record NamesOne (objects : List ℕ) (ts : List Term) : Type 0 where
  place : ℕ
  below : place < length objects
  names : names_object (get_or objects place 0) ts ≡ true

module _ (p : ObjectPlan) where
  abbrev t : Template
  t = template_in p

  -- what stands on an object has a number of a clause or of a freeze
  pub stands_within : (n object : ℕ) → StandsOn p object n → n < length t.clauses + length t.freezes
  stands_within n object s =
      ⊎_elim
      (λ h. let w = number_within (names_object object) 0 n p.outline.value.terms h in omega (arith, w.1, template_count p))
      (λ h. let w = number_within (λ (d : Delta). d.object == object) (length p.outline.value.terms) n p.outline.value.freezes h in
      omega (arith, w.1, template_count p, ap length (template_freezes p p.outline.value.freezes refl))) s

  -- with the number of a clause it is one that names the object
  pub clause_on : (n object : ℕ) → n < length t.clauses → StandsOn p object n → has n (clauses_on object p.outline.value.terms) ≡ true
  clause_on n object less s =
      ⊎_elim (λ h. h)
      (λ h. let w = number_within (λ (d : Delta). d.object == object) (length p.outline.value.terms) n p.outline.value.freezes h in
      absurd (omega (arith, w.0, less, template_count p))) s

  -- of one more of the objects: on that, or on one before
  pub object_before : (ws : List ℕ) (k n : ℕ) → StandsOnOne p ws (k + 1) n → StandsOnOne p ws k n ⊎ StandsOn p (get_or ws k 0) n
  object_before ws k n s = go (nat_lt s.place k) refl
    where
      go : (v : Bool) → nat_lt s.place k ≡ v → StandsOnOne p ws k n ⊎ StandsOn p (get_or ws k 0) n
      go true e = inl (record { place = s.place; below = grind (arith, nat_tests, e); on = s.on })
      go false e =
          let most : s.place < k → ⊥ = λ lt. grind (arith, nat_tests, e, lt) in
          let same : s.place ≡ k = omega (arith, s.below, most) in
          inr (subst (λ m. StandsOn p (get_or ws m 0) n) same s.on)

  -- ---- what stands on objects of a list, of which all others have what they had
  module _ (x y : Deltas) (ws : List ℕ) (same : (n : ℕ) → has n ws ≡ false → y n ≡ x n) where
    looked_terms :
        (ts : List Term) → NamesOne ws ts ⊎ (own_sum (map own_term ts) y ≡ own_sum (map own_term ts) x)
    unfolding definitions
    looked_terms [] = inr refl
    looked_terms (u ∷ ts) = go (has u.delta.object ws) refl (looked_terms ts)
      where
        go :
            (v : Bool) → has u.delta.object ws ≡ v → NamesOne ws ts ⊎ (own_sum (map own_term ts) y ≡ own_sum (map own_term ts) x) →
            NamesOne ws (u ∷ ts) ⊎ (own_sum (map own_term (u ∷ ts)) y ≡ own_sum (map own_term (u ∷ ts)) x)
        go true e rest =
            let here = placed u.delta.object ws e in
            let names : (u.delta.object == get_or ws here.place 0) ≡ true = grind (arith, nat_tests, here.is) in
            inl (record { place = here.place; below = here.below; names = ap (λ b. b || names_object (get_or ws here.place 0) ts) names })
        go false e (inl a) = inl (record { place = a.place; below = a.below; names = or_right (u.delta.object == get_or ws a.place 0) _ a.names })
        go false e (inr s) = inr (ap₂ (λ m z. (u.factor *ℤ m) +ℤ z) (same u.delta.object e) s)

    pub clause_stands :
        (n : ℕ) → n < length t.clauses → StandsOnOne p ws (length ws) n ⊎
        (own_sum (map own_term (get_or p.outline.value.terms n [])) y ≡ own_sum (map own_term (get_or p.outline.value.terms n [])) x)
    clause_stands n less =
        let there : n < length p.outline.value.terms = omega (arith, less, template_count p) in
        ⊎_elim
        (λ a. inl (record {
          place = a.place;
          below = a.below;
          on = inl (has_number (names_object (get_or ws a.place 0)) n p.outline.value.terms [] there ∙ a.names);
        }))
        (λ s. inr s) (looked_terms (get_or p.outline.value.terms n []))

    pub freeze_stands :
        (n : ℕ) → (n < length t.clauses → ⊥) → n < length t.clauses + length t.freezes → StandsOnOne p ws (length ws) n ⊎
        (y (get_or t.freezes (n - length t.clauses) (delta_of 0 0)).object ≡ x (get_or t.freezes (n - length t.clauses) (delta_of 0 0)).object)
    freeze_stands n past below = go (has (get_or t.freezes (n - length t.clauses) (delta_of 0 0)).object ws) refl
      where
        less : n - length t.clauses < length t.freezes
        less = omega (arith, past, below)

        number : length p.outline.value.terms + (n - length t.clauses) ≡ n
        number = omega (arith, past, template_count p)

        go :
            (v : Bool) → has (get_or t.freezes (n - length t.clauses) (delta_of 0 0)).object ws ≡ v → StandsOnOne p ws (length ws) n ⊎
            (y (get_or t.freezes (n - length t.clauses) (delta_of 0 0)).object ≡ x (get_or t.freezes (n - length t.clauses) (delta_of 0 0)).object)
        go true q =
            let here = placed (get_or t.freezes (n - length t.clauses) (delta_of 0 0)).object ws q in
            let test : Delta → Bool = λ (d : Delta). d.object == get_or ws here.place 0 in
            let names : test (get_or t.freezes (n - length t.clauses) (delta_of 0 0)) ≡ true = grind (arith, nat_tests, here.is) in
            inl (record {
              place = here.place;
              below = here.below;
              on = inr
                  (ap (λ j. has j (numbers_where test (length p.outline.value.terms) p.outline.value.freezes)) (sym number)
                  ∙ ap (λ (l : List Delta). has (length p.outline.value.terms + (n - length t.clauses)) (numbers_where test (length p.outline.value.terms) l)) (template_freezes p p.outline.value.freezes refl)
                  ∙ numbered test (length p.outline.value.terms) (n - length t.clauses) t.freezes (delta_of 0 0) less ∙ names);
            })
        go false q = inr (same _ q)

  -- ---- what is earliest of what stands on the first objects of a list
  module _ {X : Type 0} (number : X → ℕ) (at : ℕ → Option X) (ws : List ℕ) where
    pub no_object_yet : IsEarliest number at (StandsOnOne p ws 0) None
    no_object_yet = none_looked number at (StandsOnOne p ws 0) (λ n s. omega (arith, s.below))

    pub object_more :
        (k : ℕ) (found next both : Option X) → IsEarliest number at (StandsOnOne p ws k) found →
        IsEarliest number at (StandsOn p (get_or ws k 0)) next → both ≡ earlier number found next → IsEarliest number at (StandsOnOne p ws (k + 1)) both
    object_more k found next both h g e =
        subst (IsEarliest number at (StandsOnOne p ws (k + 1))) (sym e)
        (more_looked number at (λ n. StandsOnOne p ws k n ⊎ StandsOn p (get_or ws k 0) n) (StandsOnOne p ws (k + 1)) (earlier number found next)
        (λ n l. ⊎_elim (λ s. record { place = s.place; below = omega (arith, s.below); on = s.on }) (λ s. record { place = k; below = omega arith; on = s }) l)
        (λ n s. inl (object_before ws k n s)) (both_looked number at (StandsOnOne p ws k) (StandsOn p (get_or ws k 0)) found next h g))

    -- it is earliest of all, where nothing is at what stands on none of them
    pub on_all :
        (k : ℕ) → length ws ≤ k → ((n : ℕ) → n < length t.clauses + length t.freezes → StandsOnOne p ws (length ws) n ⊎ (at n ≡ None)) →
        (o : Option X) → IsEarliest number at (StandsOnOne p ws k) o → IsEarliest number at (Within 0 (length t.clauses + length t.freezes)) o
    on_all k le silent o h =
        more_looked number at (StandsOnOne p ws k) (Within 0 (length t.clauses + length t.freezes)) o
        (λ n s. (omega arith, omega (arith, stands_within n _ s.on))) back h
      where
        back : (n : ℕ) → Within 0 (length t.clauses + length t.freezes) n → StandsOnOne p ws k n ⊎ (at n ≡ None)
        back n l =
            ⊎_elim (λ s. inl (record { place = s.place; below = omega (arith, s.below, le); on = s.on })) (λ none. inr none) (silent n (omega (arith, l.1)))

  -- ---- the numbers of what stands on an object, as they are lent
  module _ (object : ℕ) (o : Outlined) (cl fr : List ℕ) where
    pub clause_numbers : o ≡ p.outline.value → ((n : ℕ) → has n cl ≡ has n (clauses_on object o.terms)) → All (λ n. n < length t.clauses) cl
    clause_numbers is same = all_of_has (λ n. n < length t.clauses) cl each
      where
        each : (n : ℕ) → has n cl ≡ true → n < length t.clauses
        each n h =
            let w = number_within (names_object object) 0 n o.terms (sym (same n) ∙ h) in
            omega (arith, w.1, template_count p, ap (λ (q : Outlined). length q.terms) is)

    module _
        (ds : List Delta) (ls : List (Listed Term)) (is : o ≡ p.outline.value)
        (frozen : (n : ℕ) → has n fr ≡ has n (freezes_on object (length o.terms) o.freezes)) (freezes : ds ≡ o.freezes)
        (terms : map (λ (l : Listed Term). l.items) ls ≡ o.terms)
      where
        count : length ls ≡ length o.terms
        count = sym (length-map ls (λ (l : Listed Term). l.items)) ∙ ap length terms

        pub freeze_numbers : All (λ n. (length ls ≤ n) × (n < length ls + length ds)) fr
        freeze_numbers = all_of_has (λ n. (length ls ≤ n) × (n < length ls + length ds)) fr each
          where
            each : (n : ℕ) → has n fr ≡ true → (length ls ≤ n) × (n < length ls + length ds)
            each n h =
                let w = number_within (λ (d : Delta). d.object == object) (length o.terms) n o.freezes (sym (frozen n) ∙ h) in
                (omega (arith, w.0, count), omega (arith, w.1, count, ap length freezes))

        pub first_is : length ls ≡ length t.clauses
        first_is = count ∙ ap (λ (q : Outlined). length q.terms) is ∙ sym (template_count p)

        pub freezes_are : ds ≡ t.freezes
        freezes_are = template_freezes p ds (freezes ∙ ap (λ (q : Outlined). q.freezes) is)

        abbrev OfClauses : ℕ → Type 0
        OfClauses n = has n (clauses_on object p.outline.value.terms) ≡ true

        abbrev OfFreezes : ℕ → Type 0
        OfFreezes n = has n (freezes_on object (length p.outline.value.terms) p.outline.value.freezes) ≡ true

        module _ {X : Type 0} (number : X → ℕ) (f g at : ℕ → Option X)
            (named : (n : ℕ) → has n cl ≡ has n (clauses_on object o.terms)) (clauses : (n : ℕ) → n < length t.clauses → f n ≡ at n)
            (others : (n : ℕ) → (n < length t.clauses → ⊥) → g n ≡ at n) where
          of_clauses : (a : Option X) → IsEarliest number f (λ n. has n cl ≡ true) a → IsEarliest number at OfClauses a
          of_clauses a h =
              more_looked number at (λ n. has n cl ≡ true) OfClauses a (λ n e. sym (same n) ∙ e) (λ n e. inl (same n ∙ e))
              (earliest_alike number f at (λ n. has n cl ≡ true) a alike h)
            where
              same : (n : ℕ) → has n cl ≡ has n (clauses_on object p.outline.value.terms)
              same n = named n ∙ ap (λ (q : Outlined). has n (clauses_on object q.terms)) is

              alike : (n : ℕ) → has n cl ≡ true → f n ≡ at n
              alike n e =
                  let w = number_within (names_object object) 0 n p.outline.value.terms (sym (same n) ∙ e) in
                  clauses n (omega (arith, w.1, template_count p))

          of_freezes : (b : Option X) → IsEarliest number g (λ n. has n fr ≡ true) b → IsEarliest number at OfFreezes b
          of_freezes b h =
              more_looked number at (λ n. has n fr ≡ true) OfFreezes b (λ n e. sym (same n) ∙ e) (λ n e. inl (same n ∙ e))
              (earliest_alike number g at (λ n. has n fr ≡ true) b alike h)
            where
              same : (n : ℕ) → has n fr ≡ has n (freezes_on object (length p.outline.value.terms) p.outline.value.freezes)
              same n = frozen n ∙ ap (λ (q : Outlined). has n (freezes_on object (length q.terms) q.freezes)) is

              alike : (n : ℕ) → has n fr ≡ true → g n ≡ at n
              alike n e =
                  let w = number_within (λ (d : Delta). d.object == object) (length p.outline.value.terms) n p.outline.value.freezes (sym (same n) ∙ e) in
                  others n (λ lt. omega (arith, lt, w.0, template_count p))

          -- the earlier of both is the earliest of what stands on the object
          pub on_object :
              (a b both : Option X) → IsEarliest number f (λ n. has n cl ≡ true) a → IsEarliest number g (λ n. has n fr ≡ true) b →
              both ≡ earlier number a b → IsEarliest number at (StandsOn p object) both
          on_object a b both h g' e =
              subst (IsEarliest number at (StandsOn p object)) (sym e)
              (both_looked number at OfClauses OfFreezes a b (of_clauses a h) (of_freezes b g'))
