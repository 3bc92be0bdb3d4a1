-- Where commands take the same branches at two bases, their templates are the same but for the slacks.
use Rattle.homeo_plan.specs.Key.{definitions as plan_definitions}
use Rattle.homeo_follow.specs.Key.{definitions}
use Rattle.std.proofs.Common.{◌≡◌, ℕ, zero, suc, ◌<◌, ◌≤◌, Bool, true, false, cond, ◌||◌, ◌&&◌, List, [], ◌∷◌, ◌++◌, map, ℤ, pos, neg_ℤ, ◌+ℤ◌, ◌*ℤ◌, refl, sym, ap, ap₂, ◌∙◌, arith}
use Rattle.std.specs.List.{list_any}
use Rattle.std.specs.Ordering.{int_eq}
use Rattle.std.proofs.lemmas.Int.{ints}
use Rattle.std.proofs.lemmas.List.{map-append}
use Rattle.homeo_meaning.specs.Whole.{IsWhole}
use Rattle.homeo_plan.specs.Each.{Each}
use Rattle.homeo_plan.specs.declared.forms.Delta.{Delta}
use Rattle.homeo_plan.specs.declared.forms.Term.{Term}
use Rattle.homeo_plan.specs.Linear.{Linear, is_empty}
use Rattle.homeo_plan.specs.Needs.{remote}
use Rattle.homeo_plan.specs.Template.{PlannedCall, needs_of, Clause, clause_of, same_terms, same_clause, with_clause, clauses_from, put_all, Template, template}
use Rattle.homeo_plan.proofs.Covering.{same_terms_is}
use Rattle.homeo_follow.specs.Brought.{Brought, brought}
use Rattle.homeo_follow.specs.Expanded.{terms_from, expanded_terms, expanded_deltas, expanded}
use Rattle.homeo_follow.specs.Follow.{followed}
use Rattle.homeo_follow.specs.ObjectTemplate.{expanded_clause, followed_atoms}
use Rattle.homeo_follow.specs.Rebased.{gained, rebased_form, rebased_clause, rebased}
use Rattle.homeo_follow.proofs.Templated.{atoms_are, by_objects}
use Rattle.homeo_follow.proofs.Needed.{needs_are_followed}

module _ (g : ℕ → ℤ) where
  -- ---- clauses
  -- the same is taken from both slacks
  slacks_alike : (m n p q : ℤ) → p ≡ q → int_eq (neg_ℤ (m +ℤ p)) (n +ℤ neg_ℤ q) ≡ int_eq (neg_ℤ m) n
  slacks_alike m n p q e = grind (arith, ints, e)

  same_rebased : (a : Linear) (c : Clause) → same_clause (clause_of (rebased_form g a)) (rebased_clause g c) ≡ same_clause (clause_of a) c
  unfolding definitions plan_definitions
  same_rebased a c = go (same_terms a.terms c.terms) refl
    where
      go :
          (u : Bool) → same_terms a.terms c.terms ≡ u →
          (u && int_eq (neg_ℤ (a.constant +ℤ gained g a.terms)) (c.slack +ℤ neg_ℤ (gained g c.terms))) ≡ (u && int_eq (neg_ℤ a.constant) c.slack)
      go true e = slacks_alike a.constant c.slack (gained g a.terms) (gained g c.terms) (ap (gained g) (same_terms_is a.terms c.terms e))
      go false e = refl

  found_rebased : (a : Linear) (cs : List Clause) →
      list_any (same_clause (clause_of (rebased_form g a))) (map (rebased_clause g) cs) ≡ list_any (same_clause (clause_of a)) cs
  found_rebased a [] = refl
  found_rebased a (c ∷ cs) = ap₂ ◌||◌ (same_rebased a c) (found_rebased a cs)

  clause_rebased : (a : Linear) → clause_of (rebased_form g a) ≡ rebased_clause g (clause_of a)
  unfolding definitions plan_definitions
  clause_rebased a = λ i. record { terms = a.terms; slack = slack a.constant (gained g a.terms) i }
    where
      slack : (m p : ℤ) → neg_ℤ (m +ℤ p) ≡ neg_ℤ m +ℤ neg_ℤ p
      slack m p = grind (arith, ints)

  with_rebased : (a : Linear) (cs : List Clause) → with_clause (map (rebased_clause g) cs) (rebased_form g a) ≡ map (rebased_clause g) (with_clause cs a)
  unfolding definitions plan_definitions
  with_rebased a cs =
      ap (λ v. cond (is_empty a.terms) (map (rebased_clause g) cs) (cond v (map (rebased_clause g) cs) (map (rebased_clause g) cs ++ clause_of (rebased_form g a) ∷ [])))
      (found_rebased a cs)
      ∙ go (is_empty a.terms) (list_any (same_clause (clause_of a)) cs)
    where
      go :
          (u v : Bool) → cond u (map (rebased_clause g) cs) (cond v (map (rebased_clause g) cs) (map (rebased_clause g) cs ++ clause_of (rebased_form g a) ∷ [])) ≡
          map (rebased_clause g) (cond u cs (cond v cs (cs ++ clause_of a ∷ [])))
      go true v = refl
      go false true = refl
      go false false =
          ap (λ c. map (rebased_clause g) cs ++ c ∷ []) (clause_rebased a) ∙ sym (map-append (rebased_clause g) cs (clause_of a ∷ []))

  clauses_rebased : (fs : List Linear) (cs : List Clause) →
      clauses_from (map (rebased_clause g) cs) (map (rebased_form g) fs) ≡ map (rebased_clause g) (clauses_from cs fs)
  unfolding plan_definitions
  clauses_rebased [] cs = refl
  clauses_rebased (a ∷ fs) cs =
      ap (λ l. clauses_from l (map (rebased_form g) fs)) (with_rebased a cs) ∙ clauses_rebased fs (with_clause cs a)

  -- ---- over the deltas of sites each object stands once at the first site
  is_first : ℕ → Bool
  is_first zero = true
  is_first (suc j) = false

  pub gained_first : List Term → ℤ
  gained_first [] = pos 0
  gained_first (t ∷ ts) = cond (is_first t.delta.site) ((t.factor *ℤ g t.delta.object) +ℤ gained_first ts) (gained_first ts)

  abbrev pub rebased_at_sites : Clause → Clause
  rebased_at_sites c = record { terms = c.terms; slack = c.slack +ℤ neg_ℤ (gained_first c.terms) }

  later_gain_none : (n j x : ℕ) (f : ℤ) (ts : List Term) → gained_first (terms_from (suc j) n x f ++ ts) ≡ gained_first ts
  unfolding definitions plan_definitions is_first gained_first
  later_gain_none zero j x f ts = refl
  later_gain_none (suc n) j x f ts = later_gain_none n (suc j) x f ts

  first_gained : (n : ℕ) (ts : List Term) → gained_first (expanded_terms (suc n) ts) ≡ gained g ts
  unfolding definitions plan_definitions is_first gained_first
  first_gained n [] = refl
  first_gained n (t ∷ ts) =
      ap (λ z. (t.factor *ℤ g t.delta.object) +ℤ z) (later_gain_none n 0 t.delta.object t.factor (expanded_terms (suc n) ts) ∙ first_gained n ts)

  pub expanded_rebased : (k : ℕ) → 1 ≤ k → (c : Clause) → expanded_clause k (rebased_clause g c) ≡ rebased_at_sites (expanded_clause k c)
  unfolding definitions
  expanded_rebased zero some c = absurd (omega (arith, some))
  expanded_rebased (suc n) some c =
      ap (λ z. record { terms = expanded_terms (suc n) c.terms; slack = c.slack +ℤ neg_ℤ z }) (sym (first_gained n c.terms))

  pub all_rebased : (k : ℕ) → 1 ≤ k → (cs : List Clause) →
      map (expanded_clause k) (map (rebased_clause g) cs) ≡ map rebased_at_sites (map (expanded_clause k) cs)
  all_rebased k some [] = refl
  all_rebased k some (c ∷ cs) = ap₂ ◌∷◌ (expanded_rebased k some c) (all_rebased k some cs)

-- ---- templates at two bases
module _ (k : ℕ) (some : 1 ≤ k) (b d g : ℕ → ℤ) where
  abbrev IsPlanned : PlannedCall → Type 0
  IsPlanned p = (p.site < k) × IsWhole p.command

  abbrev Stays : PlannedCall → Type 0
  Stays p = brought d p.command ≡ rebased g (brought b p.command)

  atoms_rebased : (gs : List PlannedCall) → Each Stays gs → followed_atoms d gs ≡ map (rebased_form g) (followed_atoms b gs)
  unfolding definitions plan_definitions
  atoms_rebased [] h = refl
  atoms_rebased (p ∷ gs) h =
      ap₂ ◌++◌ (ap (λ (r : Brought). r.atoms) h.0) (atoms_rebased gs h.1)
      ∙ sym (map-append (rebased_form g) (followed b p.command).atoms (followed_atoms b gs))

  mixed_same : (fs : List Linear) → map (λ a. a.mixed) (map (expanded k) (map (rebased_form g) fs)) ≡ map (λ a. a.mixed) (map (expanded k) fs)
  unfolding definitions
  mixed_same [] = refl
  mixed_same (a ∷ fs) = ap (λ l. expanded_deltas k a.mixed ∷ l) (mixed_same fs)

  needs_same : (gs : List PlannedCall) → Each IsPlanned gs → Each Stays gs → map (needs_of k d) gs ≡ map (needs_of k b) gs
  unfolding definitions plan_definitions
  needs_same [] h s = refl
  needs_same (p ∷ gs) h s =
      ap₂ ◌∷◌
      (needs_are_followed k d p h.0.0 h.0.1 ∙ ap (λ (r : Brought). remote p.site (expanded_deltas k r.needs)) s.0 ∙ sym (needs_are_followed k b p h.0.0 h.0.1))
      (needs_same gs h.1 s.1)

  freezes_same : (gs : List PlannedCall) → Each IsPlanned gs → Each Stays gs → (template k d gs).freezes ≡ (template k b gs).freezes
  unfolding definitions plan_definitions
  freezes_same gs h s =
      ap₂ (λ needs mixed. put_all needs (put_all mixed [])) (needs_same gs h s)
      (ap (map (λ a. a.mixed)) (atoms_are k d gs h ∙ ap (map (expanded k)) (atoms_rebased gs s))
      ∙ mixed_same (followed_atoms b gs)
      ∙ ap (map (λ a. a.mixed)) (sym (atoms_are k b gs h)))

  clauses_same : (gs : List PlannedCall) → Each IsPlanned gs → Each Stays gs →
      (template k d gs).clauses ≡ map (rebased_at_sites g) (template k b gs).clauses
  unfolding plan_definitions
  clauses_same gs h s =
      (by_objects k d some gs h).clauses
      ∙ ap (λ fs. map (expanded_clause k) (clauses_from [] fs)) (atoms_rebased gs s)
      ∙ ap (map (expanded_clause k)) (clauses_rebased g (followed_atoms b gs) [])
      ∙ all_rebased g k some (clauses_from [] (followed_atoms b gs))
      ∙ ap (map (rebased_at_sites g)) (sym (by_objects k b some gs h).clauses)

  -- the clauses of the one over whole objects, rebased, are those of the other, and the freezes are the same
  pub template_rebased : (gs : List PlannedCall) → Each IsPlanned gs → Each Stays gs → (cs : List Clause) (ds : List Delta) →
      record { clauses = map (expanded_clause k) cs; freezes = ds } ≡ template k b gs →
      record { clauses = map (expanded_clause k) (map (rebased_clause g) cs); freezes = ds } ≡ template k d gs
  template_rebased gs h s cs ds e =
      ap₂ (λ clauses freezes. record { clauses = clauses; freezes = freezes })
      (all_rebased g k some cs ∙ ap (λ (t : Template). map (rebased_at_sites g) t.clauses) e ∙ sym (clauses_same gs h s))
      (ap (λ (t : Template). t.freezes) e ∙ sym (freezes_same gs h s))

pub templates_stay : (k : ℕ) (b d g : ℕ → ℤ) → 1 ≤ k → (gs : List PlannedCall) → Each (λ p. (p.site < k) × IsWhole p.command) gs →
    Each (λ p. brought d p.command ≡ rebased g (brought b p.command)) gs → (cs : List Clause) (ds : List Delta) →
    record { clauses = map (expanded_clause k) cs; freezes = ds } ≡ template k b gs →
    record { clauses = map (expanded_clause k) (map (rebased_clause g) cs); freezes = ds } ≡ template k d gs
templates_stay k b d g some gs h s cs ds e = template_rebased k some b d g gs h s cs ds e
