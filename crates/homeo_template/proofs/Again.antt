-- A set of atoms that comes again brings no more clauses.
use Rattle.homeo_plan.specs.Key.{definitions}
use Rattle.std.proofs.Common.{◌≡◌, ℕ, zero, suc, ◌+◌, ◌<◌, ◌==◌, Bool, true, false, cond, ◌&&◌, ◌||◌, List, [], ◌∷◌, ◌++◌, map, length, take, get_or, refl, sym, ap, ap₂, subst, ◌∙◌, arith, true≢false}
use Rattle.std.specs.Prelude.{slice_index_or, if◌then◌else◌}
use Rattle.std.specs.List.{list_any}
use Rattle.std.proofs.lemmas.List.{take_more, map_push}
use Rattle.homeo_lemmas.proofs.Integers.{int_itself}
use Rattle.homeo_lemmas.proofs.Naturals.{nat_is}
use Rattle.homeo_plan.specs.declared.forms.Term.{Term}
use Rattle.homeo_plan.specs.Each.{Each}
use Rattle.homeo_plan.specs.Linear.{Linear, is_empty}
use Rattle.homeo_plan.specs.Template.{Clause, clause_of, same_term, same_terms, same_clause, with_clause, clauses_from, atoms_of_sets}
use Rattle.homeo_plan.proofs.Factors.{same_delta_refl}
use Rattle.homeo_template.specs.Places.{set_at}
use Rattle.homeo_template.specs.inner.Met.{HaveClauses, AreMet}
use Rattle.homeo_template.proofs.Appending.{clauses_append, atoms_push}

-- ---- a clause is the same as itself
term_same : (t : Term) → same_term t t ≡ true
unfolding definitions
term_same t = ap₂ ◌&&◌ (same_delta_refl t.delta) (int_itself t.factor)

terms_same : (ts : List Term) → same_terms ts ts ≡ true
unfolding definitions
terms_same [] = refl
terms_same (t ∷ ts) = ap₂ ◌&&◌ (term_same t) (terms_same ts)

clause_same : (c : Clause) → same_clause c c ≡ true
unfolding definitions
clause_same c = ap₂ ◌&&◌ (terms_same c.terms) (int_itself c.slack)

-- ---- what is among clauses stays so
module _ (p : Clause → Bool) where
  any_first : (cs ds : List Clause) → list_any p cs ≡ true → list_any p (cs ++ ds) ≡ true
  any_first [] ds h = absurd (true≢false (sym h))
  any_first (c ∷ cs) ds h = go (p c) h (any_first cs ds)
    where
      go : (b : Bool) → (b || list_any p cs) ≡ true → (list_any p cs ≡ true → list_any p (cs ++ ds) ≡ true) → (b || list_any p (cs ++ ds)) ≡ true
      go true h rest = refl
      go false h rest = rest h

  any_last : (cs : List Clause) (d : Clause) → p d ≡ true → list_any p (cs ++ d ∷ []) ≡ true
  any_last [] d h = ap (λ b. b || false) h
  any_last (c ∷ cs) d h = go (p c) (any_last cs d h)
    where
      go : (b : Bool) → list_any p (cs ++ d ∷ []) ≡ true → (b || list_any p (cs ++ d ∷ [])) ≡ true
      go true rest = refl
      go false rest = rest

  any_with : (cs : List Clause) (a : Linear) → list_any p cs ≡ true → list_any p (with_clause cs a) ≡ true
  unfolding definitions
  any_with cs a h = go (is_empty a.terms) (list_any (same_clause (clause_of a)) cs)
    where
      go : (u v : Bool) → list_any p (cond u cs (cond v cs (cs ++ clause_of a ∷ []))) ≡ true
      go true v = h
      go false true = h
      go false false = any_first cs (clause_of a ∷ []) h

  any_from : (cs : List Clause) (atoms : List Linear) → list_any p cs ≡ true → list_any p (clauses_from cs atoms) ≡ true
  unfolding definitions
  any_from cs [] h = h
  any_from cs (a ∷ atoms) h = any_from (with_clause cs a) atoms (any_with cs a h)

-- ---- clauses of a set
have_more : (cs : List Clause) (more atoms : List Linear) → HaveClauses cs atoms → HaveClauses (clauses_from cs more) atoms
unfolding definitions
have_more cs more [] h = tt
have_more cs more (a ∷ atoms) h = (λ e. any_from (same_clause (clause_of a)) cs more (h.0 e), have_more cs more atoms h.1)

has_own : (cs : List Clause) (a : Linear) → is_empty a.terms ≡ false → list_any (same_clause (clause_of a)) (with_clause cs a) ≡ true
unfolding definitions
has_own cs a e = go (is_empty a.terms) (list_any (same_clause (clause_of a)) cs) e refl
  where
    go : (u v : Bool) → u ≡ false → list_any (same_clause (clause_of a)) cs ≡ v → list_any (same_clause (clause_of a)) (cond u cs (cond v cs (cs ++ clause_of a ∷ []))) ≡ true
    go true v e q = absurd (true≢false e)
    go false true e q = q
    go false false e q = any_last (same_clause (clause_of a)) cs (clause_of a) (clause_same (clause_of a))

have_own : (cs : List Clause) (atoms : List Linear) → HaveClauses (clauses_from cs atoms) atoms
unfolding definitions
have_own cs [] = tt
have_own cs (a ∷ atoms) = (λ e. any_from (same_clause (clause_of a)) (with_clause cs a) atoms (has_own cs a e), have_own (with_clause cs a) atoms)

one_again : (cs : List Clause) (a : Linear) → (is_empty a.terms ≡ false → list_any (same_clause (clause_of a)) cs ≡ true) → with_clause cs a ≡ cs
unfolding definitions
one_again cs a h = go (is_empty a.terms) (list_any (same_clause (clause_of a)) cs) h
  where
    go : (u v : Bool) → (u ≡ false → v ≡ true) → cond u cs (cond v cs (cs ++ clause_of a ∷ [])) ≡ cs
    go true v h = refl
    go false true h = refl
    go false false h = absurd (true≢false (sym (h refl)))

pub none_again : (cs : List Clause) (atoms : List Linear) → HaveClauses cs atoms → clauses_from cs atoms ≡ cs
unfolding definitions
none_again cs [] h = refl
none_again cs (a ∷ atoms) h = ap (λ l. clauses_from l atoms) (one_again cs a h.0) ∙ none_again cs atoms h.1

-- ---- marks
pub none_met : (met : List Bool) (sets : List (List Linear)) (cs : List Clause) → met ≡ [] → AreMet met sets cs
none_met met sets cs e = λ n h. absurd (true≢false (sym h ∙ ap (λ l. slice_index_or l n false) e))

pub one_met :
    (met more : List Bool) (sets : List (List Linear)) (place : ℕ) (cs after : List Clause) →
    ((m : ℕ) → slice_index_or more m false ≡ (if place == m then true else slice_index_or met m false)) → AreMet met sets cs →
    after ≡ clauses_from cs (set_at sets place) → AreMet more sets after
one_met met more sets place cs after marked h put = λ n e. subst (λ l. HaveClauses l (set_at sets n)) (sym put) (go n (place == n) refl (sym (marked n) ∙ e))
  where
    go : (n : ℕ) (b : Bool) → (place == n) ≡ b → (if b then true else slice_index_or met n false) ≡ true → HaveClauses (clauses_from cs (set_at sets place)) (set_at sets n)
    go n true q e =
        subst (λ m. HaveClauses (clauses_from cs (set_at sets place)) (set_at sets m)) (nat_is place n q) (have_own cs (set_at sets place))
    go n false q e = have_more cs (set_at sets place) (set_at sets n) (h n e)

-- ---- the set at a place
pub set_here : {X : Type 0} (f : X → List Linear) (xs : List X) (n : ℕ) (x : X) → n < length xs → x ≡ get_or xs n x → set_at (map f xs) n ≡ f x
set_here f [] n x l is = absurd (omega (arith, l))
set_here f (y ∷ xs) zero x l is = ap f (sym is)
set_here f (y ∷ xs) (suc n) x l is = set_here f xs n x (omega (arith, l)) is

pub each_number : (P : ℕ → Type 0) (ns : List ℕ) (i d : ℕ) → Each P ns → i < length ns → P (get_or ns i d)
unfolding definitions
each_number P [] i d h l = absurd (omega (arith, l))
each_number P (n ∷ ns) zero d h l = h.0
each_number P (n ∷ ns) (suc i) d h l = each_number P ns i d h.1 (omega (arith, l))

-- one place more
pub places_more :
    (sets : List (List Linear)) (places : List ℕ) (i d : ℕ) (before after : List Clause) → i < length places →
    before ≡ clauses_from [] (atoms_of_sets (map (set_at sets) (take i places))) → after ≡ clauses_from before (set_at sets (get_or places i d)) →
    after ≡ clauses_from [] (atoms_of_sets (map (set_at sets) (take (i + 1) places)))
places_more sets places i d before after l e put =
    let n : ℕ = get_or places i d in
    put ∙ ap (λ cs. clauses_from cs (set_at sets n)) e
    ∙ sym (clauses_append [] (atoms_of_sets (map (set_at sets) (take i places))) (set_at sets n))
    ∙ ap (clauses_from []) (sym (atoms_push (map (set_at sets) (take i places)) (set_at sets n))
    ∙ ap atoms_of_sets (sym (map_push (set_at sets) (take i places) n) ∙ ap (map (set_at sets)) (sym (take_more places i d l))))
