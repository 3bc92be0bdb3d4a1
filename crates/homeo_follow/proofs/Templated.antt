-- The template of ground calls is that of their commands over whole objects.
use Rattle.homeo_plan.specs.Key.{definitions as plan_definitions}
use Rattle.homeo_follow.specs.Key.{definitions}
use Rattle.std.proofs.Common.{◌≡◌, ℕ, zero, suc, ◌==◌, ◌<◌, ◌≤◌, nat_lt, Bool, true, false, cond, not, ◌||◌, ◌&&◌, List, [], ◌∷◌, ◌++◌, map, ℤ, neg_ℤ, refl, sym, ap, ap₂, ◌∙◌, arith}
use Rattle.std.specs.List.{list_any}
use Rattle.std.specs.Ordering.{int_eq}
use Rattle.std.proofs.lemmas.List.{map-append}
use Rattle.std.proofs.lemmas.Bool.{and_parts}
use Rattle.homeo_lemmas.proofs.Integers.{int_is, int_itself}
use Rattle.homeo_meaning.specs.Whole.{IsWhole}
use Rattle.homeo_plan.specs.Each.{Each}
use Rattle.homeo_plan.specs.declared.forms.Delta.{Delta}
use Rattle.homeo_plan.specs.declared.forms.Term.{Term}
use Rattle.homeo_plan.specs.Linear.{delta_of, same_delta, Linear, add_deltas, is_empty, base_forms}
use Rattle.homeo_plan.specs.Template.{PlannedCall, atoms_of, needs_of, Clause, clause_of, same_term, same_terms, same_clause, with_clause, clauses_from, atoms_of_sets, put_all, template}
use Rattle.homeo_plan.proofs.Factors.{same_delta_is, same_delta_refl}
use Rattle.homeo_follow.specs.Expanded.{terms_from, expanded_terms, expanded_deltas, expanded}
use Rattle.homeo_follow.specs.Follow.{object_delta, object_forms, followed, needed}
use Rattle.homeo_follow.specs.ObjectTemplate.{expanded_clause, followed_atoms, has_object, is_frozen, IsByObjects}
use Rattle.homeo_follow.proofs.Terms.{OfEach}
use Rattle.homeo_plan.proofs.DeltaLists.{has, has_adds, or_move}
use Rattle.homeo_plan.proofs.Atoms.{append_each}
use Rattle.homeo_follow.proofs.Deltas.{has_remote, and_or}
use Rattle.homeo_follow.proofs.Expansions.{IsObject, IsTidy, object_is, has_expanded, no_terms}
use Rattle.homeo_follow.proofs.Standing.{stands_at_base}
use Rattle.homeo_follow.proofs.Simulated.{follows}
use Rattle.homeo_follow.proofs.PlannedAtoms.{atoms_are_followed}
use Rattle.homeo_follow.proofs.Needed.{AreObjects, objects_needed, needs_are_followed}

-- ---- equal clauses
same_itself : (x j : ℕ) (f : ℤ) → same_term (record { delta = delta_of x j; factor = f }) (record { delta = delta_of x j; factor = f }) ≡ true
unfolding plan_definitions
same_itself x j f = ap₂ ◌&&◌ (same_delta_refl (delta_of x j)) (int_itself f)

same_prefix : (j n x : ℕ) (f : ℤ) (ts us : List Term) → same_terms (terms_from j n x f ++ ts) (terms_from j n x f ++ us) ≡ same_terms ts us
unfolding definitions plan_definitions
same_prefix j zero x f ts us = refl
same_prefix j (suc n) x f ts us =
    ap (λ b. b && same_terms (terms_from (suc j) n x f ++ ts) (terms_from (suc j) n x f ++ us)) (same_itself x j f) ∙ same_prefix (suc j) n x f ts us

same_behind : (n x y : ℕ) (f g : ℤ) (ts us : List Term) → same_term (record { delta = delta_of x 0; factor = f }) (record { delta = delta_of y 0; factor = g }) ≡ true →
    same_terms (terms_from 1 n x f ++ ts) (terms_from 1 n y g ++ us) ≡ same_terms ts us
unfolding plan_definitions
same_behind n x y f g ts us e =
    let parts = and_parts (same_delta (delta_of x 0) (delta_of y 0)) (int_eq f g) e in
    let objects : x ≡ y = ap (λ (d : Delta). d.object) (same_delta_is (delta_of x 0) (delta_of y 0) parts.0) in
    let factors : f ≡ g = int_is f g parts.1 in
    ap₂ (λ z h. same_terms (terms_from 1 n x f ++ ts) (terms_from 1 n z h ++ us)) (sym objects) (sym factors) ∙ same_prefix 1 n x f ts us

and_same : (b p q : Bool) → (b ≡ true → p ≡ q) → (b && p) ≡ (b && q)
and_same true p q h = h refl
and_same false p q h = refl

same_expanded : (k : ℕ) (ts us : List Term) → 1 ≤ k → OfEach IsObject ts → OfEach IsObject us → same_terms (expanded_terms k ts) (expanded_terms k us) ≡ same_terms ts us
unfolding definitions plan_definitions
same_expanded zero ts us l h g = absurd (omega (arith, l))
same_expanded (suc n) [] [] l h g = refl
same_expanded (suc n) [] (u ∷ us) l h g = refl
same_expanded (suc n) (t ∷ ts) [] l h g = refl
same_expanded (suc n) (t ∷ ts) (u ∷ us) l h g =
    and_same (same_term one two) (same_terms (terms_from 1 n t.delta.object t.factor ++ expanded_terms (suc n) ts) (terms_from 1 n u.delta.object u.factor ++ expanded_terms (suc n) us)) (same_terms ts us)
    (λ e. same_behind n t.delta.object u.delta.object t.factor u.factor (expanded_terms (suc n) ts) (expanded_terms (suc n) us) e ∙ same_expanded (suc n) ts us l h.1 g.1)
    ∙ ap (λ b. b && same_terms ts us) (ap₂ same_term (sym (at t h.0)) (sym (at u g.0)))
  where
    one : Term
    one = record { delta = delta_of t.delta.object 0; factor = t.factor }

    two : Term
    two = record { delta = delta_of u.delta.object 0; factor = u.factor }

    at : (v : Term) → IsObject v.delta → v ≡ record { delta = delta_of v.delta.object 0; factor = v.factor }
    at v o = λ i. record { delta = object_is v.delta o i; factor = v.factor }

-- ---- the clauses of atoms
abbrev AreObjectClauses : List Clause → Type 0
AreObjectClauses cs = Each (λ c. OfEach IsObject c.terms) cs

module _ (k : ℕ) (some : 1 ≤ k) where
  found_expanded : (a : Linear) (cs : List Clause) → IsTidy a → AreObjectClauses cs →
      list_any (same_clause (clause_of (expanded k a))) (map (expanded_clause k) cs) ≡ list_any (same_clause (clause_of a)) cs
  unfolding definitions plan_definitions
  found_expanded a [] t h = refl
  found_expanded a (c ∷ cs) t h =
      ap₂ (λ u v. (u && int_eq (neg_ℤ a.constant) c.slack) || v) (same_expanded k a.terms c.terms some t.objects h.0) (found_expanded a cs t h.1)

  with_expanded : (a : Linear) (cs : List Clause) → IsTidy a → AreObjectClauses cs →
      with_clause (map (expanded_clause k) cs) (expanded k a) ≡ map (expanded_clause k) (with_clause cs a)
  unfolding definitions plan_definitions
  with_expanded a cs t h =
      ap₂ (λ u v. cond u (map (expanded_clause k) cs) (cond v (map (expanded_clause k) cs) (map (expanded_clause k) cs ++ clause_of (expanded k a) ∷ [])))
      (no_terms k a.terms some) (found_expanded a cs t h)
      ∙ go (is_empty a.terms) (list_any (same_clause (clause_of a)) cs)
    where
      go :
          (u v : Bool) → cond u (map (expanded_clause k) cs) (cond v (map (expanded_clause k) cs) (map (expanded_clause k) cs ++ clause_of (expanded k a) ∷ [])) ≡
          map (expanded_clause k) (cond u cs (cond v cs (cs ++ clause_of a ∷ [])))
      go true v = refl
      go false true = refl
      go false false = sym (map-append (expanded_clause k) cs (clause_of a ∷ []))

  clauses_with : (a : Linear) (cs : List Clause) → IsTidy a → AreObjectClauses cs → AreObjectClauses (with_clause cs a)
  unfolding plan_definitions
  clauses_with a cs t h = go (is_empty a.terms) (list_any (same_clause (clause_of a)) cs)
    where
      go : (u v : Bool) → AreObjectClauses (cond u cs (cond v cs (cs ++ clause_of a ∷ [])))
      go true v = h
      go false true = h
      go false false = append_each (λ c. OfEach IsObject c.terms) cs (clause_of a ∷ []) h (t.objects, tt)

  clauses_expanded : (fs : List Linear) (cs : List Clause) → Each IsTidy fs → AreObjectClauses cs →
      clauses_from (map (expanded_clause k) cs) (map (expanded k) fs) ≡ map (expanded_clause k) (clauses_from cs fs)
  unfolding plan_definitions
  clauses_expanded [] cs t h = refl
  clauses_expanded (a ∷ fs) cs t h =
      ap (λ l. clauses_from l (map (expanded k) fs)) (with_expanded a cs t.0 h) ∙ clauses_expanded fs (with_clause cs a) t.1 (clauses_with a cs t.0 h)

-- ---- freezes
any_and : {X : Type 0} (b : Bool) (p : X → Bool) (xs : List X) → list_any (λ x. b && p x) xs ≡ (b && list_any p xs)
any_and true p [] = refl
any_and false p [] = refl
any_and b p (x ∷ xs) = ap (λ c. (b && p x) || c) (any_and b p xs) ∙ sym (and_or b (p x) (list_any p xs))

has_all : (d : Delta) (ls : List (List Delta)) (out : List Delta) → has d (put_all ls out) ≡ (list_any (has d) ls || has d out)
unfolding plan_definitions
has_all d [] out = refl
has_all d (ds ∷ ls) out =
    has_all d ls (add_deltas ds out) ∙ ap (λ b. list_any (has d) ls || b) (has_adds d ds out) ∙ or_move (list_any (has d) ls) (has d ds) (has d out)

module _ (k : ℕ) (b : ℕ → ℤ) where
  -- at a site of k, over whole objects
  abbrev IsPlanned : PlannedCall → Type 0
  IsPlanned g = (g.site < k) × IsWhole g.command

  tidy_atoms : (gs : List PlannedCall) → Each IsPlanned gs → Each IsTidy (followed_atoms b gs)
  unfolding definitions plan_definitions
  tidy_atoms [] h = tt
  tidy_atoms (g ∷ gs) h =
      append_each IsTidy (followed b g.command).atoms (followed_atoms b gs)
      (follows k g.site h.0.0 b g.command h.0.1 (base_forms b) (object_forms b) (stands_at_base k g.site h.0.0 b)).atoms.tidy (tidy_atoms gs h.1)

  pub atoms_are : (gs : List PlannedCall) → Each IsPlanned gs → atoms_of_sets (map (atoms_of k b) gs) ≡ map (expanded k) (followed_atoms b gs)
  unfolding definitions plan_definitions
  atoms_are [] h = refl
  atoms_are (g ∷ gs) h =
      ap₂ ◌++◌ (atoms_are_followed k b g h.0.0 h.0.1) (atoms_are gs h.1)
      ∙ sym (map-append (expanded k) (followed b g.command).atoms (followed_atoms b gs))

  module _ (d : Delta) where
    swapped : (u v w : Bool) → (u && (v && w)) ≡ (v && (u && w))
    swapped true true w = refl
    swapped true false w = refl
    swapped false true w = refl
    swapped false false w = refl

    has_needs : (g : PlannedCall) → IsPlanned g → has d (needs_of k b g) ≡ (nat_lt d.site k && (not (d.site == g.site) && has_object d.object (needed b (followed b g.command))))
    unfolding definitions
    has_needs g h =
        let n : List Delta = needed b (followed b g.command) in
        let o : AreObjects n = objects_needed k b g h.0 h.1 in
        ap (has d) (needs_are_followed k b g h.0 h.1)
        ∙ has_remote g.site d (expanded_deltas k n)
        ∙ ap (λ c. not (d.site == g.site) && c) (has_expanded d k n o.objects o.ordered)
        ∙ swapped (not (d.site == g.site)) (nat_lt d.site k) (has (object_delta d.object) n)

    any_needs : (gs : List PlannedCall) → Each IsPlanned gs → list_any (has d) (map (needs_of k b) gs) ≡
        list_any (λ g. nat_lt d.site k && (not (d.site == g.site) && has_object d.object (needed b (followed b g.command)))) gs
    unfolding plan_definitions
    any_needs [] h = refl
    any_needs (g ∷ gs) h = ap₂ ◌||◌ (has_needs g h.0) (any_needs gs h.1)

    any_mixed : (fs : List Linear) → Each IsTidy fs → list_any (has d) (map (λ a. a.mixed) (map (expanded k) fs)) ≡ list_any (λ a. nat_lt d.site k && has_object d.object a.mixed) fs
    unfolding definitions plan_definitions
    any_mixed [] t = refl
    any_mixed (a ∷ fs) t = ap₂ ◌||◌ (has_expanded d k a.mixed t.0.mixed t.0.ordered) (any_mixed fs t.1)

    both : (u m n : Bool) → ((u && n) || ((u && m) || false)) ≡ (u && (m || n))
    both true true true = refl
    both true true false = refl
    both true false true = refl
    both true false false = refl
    both false m n = refl

    frozen : (gs : List PlannedCall) → Each IsPlanned gs → has d (template k b gs).freezes ≡ (nat_lt d.site k && is_frozen b gs d.object d.site)
    unfolding definitions plan_definitions
    frozen gs h =
        let mixed : List (List Delta) = map (λ a. a.mixed) (atoms_of_sets (map (atoms_of k b) gs)) in
        has_all d (map (needs_of k b) gs) (put_all mixed [])
        ∙ ap₂ ◌||◌
        (any_needs gs h ∙ any_and (nat_lt d.site k) (λ g. not (d.site == g.site) && has_object d.object (needed b (followed b g.command))) gs)
        (has_all d mixed []
        ∙ ap (λ c. c || false)
        (ap (λ l. list_any (has d) (map (λ a. a.mixed) l)) (atoms_are gs h)
        ∙ any_mixed (followed_atoms b gs) (tidy_atoms gs h)
        ∙ any_and (nat_lt d.site k) (λ a. has_object d.object a.mixed) (followed_atoms b gs)))
        ∙ both (nat_lt d.site k) (list_any (λ a. has_object d.object a.mixed) (followed_atoms b gs))
        (list_any (λ g. not (d.site == g.site) && has_object d.object (needed b (followed b g.command))) gs)

  pub by_objects : 1 ≤ k → (gs : List PlannedCall) → Each IsPlanned gs → IsByObjects k b gs
  unfolding definitions plan_definitions
  by_objects some gs h =
      record {
        clauses = ap (clauses_from []) (atoms_are gs h) ∙ clauses_expanded k some (followed_atoms b gs) [] (tidy_atoms gs h) tt;
        freezes = λ d. frozen d gs h;
      }
