-- Clauses with terms and slacks, one after another.
use Rattle.std.proofs.Common.{◌≡◌, ℕ, zero, suc, ◌+◌, ◌<◌, List, [], ◌∷◌, ◌++◌, map, take, get_or, length, ℤ, pos, neg_ℤ, ◌+ℤ◌, refl, sym, ap, ap₂, ◌∙◌, arith, length-take}
use Rattle.std.specs.Prelude.{slice_index_or}
use Rattle.std.proofs.lemmas.List.{map-append, length-map, take_more}
use Rattle.homeo_plan.specs.declared.forms.Term.{Term}
use Rattle.homeo_plan.specs.Key.{definitions as plan_definitions}
use Rattle.homeo_plan.specs.PlanView.{plain_clause}
use Rattle.homeo_plan.specs.Template.{Clause}
use Rattle.homeo_plan.specs.declared.templates.Clause as code
use Rattle.homeo_follow.specs.Key.{definitions as follow_definitions}
use Rattle.homeo_follow.specs.Rebased.{gained, rebased_clause}
use Rattle.homeo_outline.specs.Key.{definitions}
use Rattle.homeo_outline.specs.ObjectPlan.{clauses_with}
use Rattle.homeo_outline.specs.inner.Moved.{slack_at, moved_slack}

-- ---- one more clause
pub clauses_more :
    (tss : List (List Term)) (ss : List ℤ) (ts : List Term) →
    clauses_with (tss ++ ts ∷ []) ss ≡ clauses_with tss ss ++ record { terms = ts; slack = slice_index_or ss (length tss) (pos 0) } ∷ []
unfolding definitions
clauses_more [] [] ts = refl
clauses_more [] (s ∷ ss) ts = refl
clauses_more (us ∷ tss) [] ts = ap (λ cs. record { terms = us; slack = pos 0 } ∷ cs) (clauses_more tss [] ts)
clauses_more (us ∷ tss) (s ∷ ss) ts = ap (λ cs. record { terms = us; slack = s } ∷ cs) (clauses_more tss ss ts)

-- ---- lists that are read item by item
module _ {X : Type 0} (f : X → List Term) (xs : List X) (k : ℕ) (d : X) (lt : k < length xs) where
  next : map f (take (k + 1) xs) ≡ map f (take k xs) ++ f (get_or xs k d) ∷ []
  next = ap (map f) (take_more xs k d lt) ∙ map-append f (take k xs) (get_or xs k d ∷ [])

  counted : length (map f (take k xs)) ≡ k
  counted = let long : length (take k xs) ≡ k = grind (arith, length-take) in length-map (take k xs) f ∙ long

  -- a clause is made
  pub clause_made :
      (ss : List ℤ) (cs : List Clause) (c : Clause) → cs ≡ clauses_with (map f (take k xs)) ss →
      c ≡ record { terms = f (get_or xs k d); slack = slice_index_or ss k (pos 0) } → cs ++ c ∷ [] ≡ clauses_with (map f (take (k + 1) xs)) ss
  clause_made ss cs c so_far is =
      ap₂ (λ (bs : List Clause) b. bs ++ b ∷ []) so_far
      (is ∙ ap (λ n. record { terms = f (get_or xs k d); slack = slice_index_or ss n (pos 0) }) (sym counted))
      ∙ sym (clauses_more (map f (take k xs)) ss (f (get_or xs k d))) ∙ ap (λ tss. clauses_with tss ss) (sym next)

-- ---- slacks that move
abbrev rest : List ℤ → List ℤ
rest [] = []
rest (s ∷ ss) = ss

rest_at : (ss : List ℤ) (n : ℕ) → slack_at (rest ss) n ≡ slack_at ss (suc n)
rest_at [] n = refl
rest_at (s ∷ ss) n = refl

first_clause : (ts : List Term) (tss : List (List Term)) (ss : List ℤ) → clauses_with (ts ∷ tss) ss ≡ record { terms = ts; slack = slack_at ss 0 } ∷ clauses_with tss (rest ss)
unfolding definitions
first_clause ts tss [] = refl
first_clause ts tss (s ∷ ss) = refl

pub clauses_moved :
    (g : ℕ → ℤ) (tss : List (List Term)) (ss made : List ℤ) → ((n : ℕ) → n < length tss → slack_at made n ≡ moved_slack g tss ss n) →
    clauses_with tss made ≡ map (rebased_clause g) (clauses_with tss ss)
unfolding definitions follow_definitions
clauses_moved g [] ss made h = refl
clauses_moved g (ts ∷ tss) ss made h =
    first_clause ts tss made
    ∙ ap₂ (λ s cs. record { terms = ts; slack = s } ∷ cs) (h 0 (omega arith))
    (clauses_moved g tss (rest ss) (rest made)
    (λ n l. rest_at made n ∙ h (suc n) (omega (arith, l)) ∙ ap (λ s. s +ℤ neg_ℤ (gained g (slice_index_or tss n []))) (sym (rest_at ss n))))
    ∙ sym (ap (map (rebased_clause g)) (first_clause ts tss ss))

-- clauses are those with their terms and slacks
pub clauses_apart : (cs : List code.Clause) → clauses_with (map (λ t. t.items) (map (λ (c : code.Clause). c.terms) cs)) (map (λ (c : code.Clause). c.slack) cs) ≡ map plain_clause cs
unfolding definitions plan_definitions
clauses_apart [] = refl
clauses_apart (c ∷ cs) = ap (λ ds. plain_clause c ∷ ds) (clauses_apart cs)

-- ---- a clause by its number
pub clause_count : (tss : List (List Term)) (ss : List ℤ) → length (clauses_with tss ss) ≡ length tss
unfolding definitions
clause_count [] ss = refl
clause_count (ts ∷ tss) [] = ap suc (clause_count tss [])
clause_count (ts ∷ tss) (s ∷ ss) = ap suc (clause_count tss ss)

pub clause_read :
    (tss : List (List Term)) (ss : List ℤ) (n : ℕ) (d : Clause) → n < length tss →
    get_or (clauses_with tss ss) n d ≡ record { terms = get_or tss n []; slack = slack_at ss n }
unfolding definitions
clause_read [] ss n d lt = absurd (omega (arith, lt))
clause_read (ts ∷ tss) [] zero d lt = refl
clause_read (ts ∷ tss) [] (suc n) d lt = clause_read tss [] n d (omega (arith, lt))
clause_read (ts ∷ tss) (s ∷ ss) zero d lt = refl
clause_read (ts ∷ tss) (s ∷ ss) (suc n) d lt = clause_read tss ss n d (omega (arith, lt))
