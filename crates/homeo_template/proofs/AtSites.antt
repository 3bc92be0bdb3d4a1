-- Terms of whole objects, one site after another, and the clauses that they make.
use Rattle.homeo_follow.specs.Key.{definitions}
use Rattle.std.proofs.Common.{◌≡◌, ℕ, suc, ◌+◌, ◌-◌, ◌<◌, ◌≤◌, List, [], ◌∷◌, ◌++◌, map, take, drop, get_or, length, ℤ, refl, sym, ap, ◌∙◌, add-one, append_assoc, append-nil, drop_of_length-le, arith}
use Rattle.std.proofs.Math.Seq.{drop-cons}
use Rattle.std.proofs.lemmas.List.{take_all}
use Rattle.homeo_syntax.specs.Listed.{Listed}
use Rattle.homeo_plan.specs.declared.forms.Term.{Term}
use Rattle.homeo_plan.specs.declared.templates.Clause.{Clause}
use Rattle.homeo_plan.specs.Linear.{delta_of}
use Rattle.homeo_plan.specs.PlanView.{plain_clause}
use Rattle.homeo_plan.specs.Template as template
use Rattle.homeo_follow.specs.Expanded.{terms_from, expanded_terms}
use Rattle.homeo_follow.specs.ObjectTemplate.{expanded_clause}

-- ---- the sites of one object
module _ (x : ℕ) (f : ℤ) (k : ℕ) (out : List Term) where
  pub terms_begin : (start : List Term) → start ≡ out → start ++ terms_from 0 (k - 0) x f ≡ out ++ terms_from 0 k x f
  terms_begin start e =
      let p : k - 0 ≡ k = omega arith in
      ap (λ l. l ++ terms_from 0 (k - 0) x f) e ∙ ap (λ n. out ++ terms_from 0 n x f) p

  pub terms_next :
      (j : ℕ) (more : List Term) → j < k → more ≡ out ++ record { delta = delta_of x j; factor = f } ∷ [] →
      more ++ terms_from (j + 1) (k - (j + 1)) x f ≡ out ++ terms_from j (k - j) x f
  unfolding definitions
  terms_next j more h p =
      let left : k - j ≡ suc (k - (j + 1)) = omega (arith, h) in
      let next : suc j ≡ j + 1 = omega arith in
      let t : Term = record { delta = delta_of x j; factor = f } in
      ap (λ l. l ++ terms_from (j + 1) (k - (j + 1)) x f) p ∙ append_assoc out (t ∷ []) (terms_from (j + 1) (k - (j + 1)) x f)
      ∙ sym (ap (λ n. out ++ terms_from j n x f) left ∙ ap (λ m. out ++ t ∷ terms_from m (k - (j + 1)) x f) next)

  pub terms_end : (j : ℕ) → k ≤ j → out ≡ out ++ terms_from j (k - j) x f
  unfolding definitions
  terms_end j h = let none : k - j ≡ 0 = omega (arith, h) in sym (ap (λ n. out ++ terms_from j n x f) none ∙ append-nil out)

module _ (k : ℕ) where
  -- ---- one object after another
  pub more_terms :
      (ts out more : List Term) (n : ℕ) (x : Term) → n < length ts →
      more ≡ out ++ terms_from 0 k (get_or ts n x).delta.object (get_or ts n x).factor →
      more ++ expanded_terms k (drop (n + 1) ts) ≡ out ++ expanded_terms k (drop n ts)
  unfolding definitions
  more_terms ts out more n x h p =
      let t : Term = get_or ts n x in
      let next : drop n ts ≡ t ∷ drop (n + 1) ts = rw add-one (drop-cons ts n x h) in
      ap (λ l. l ++ expanded_terms k (drop (n + 1) ts)) p
      ∙ append_assoc out (terms_from 0 k t.delta.object t.factor) (expanded_terms k (drop (n + 1) ts))
      ∙ sym (ap (λ l. out ++ expanded_terms k l) next)

  pub all_terms : (ts out : List Term) (n : ℕ) → length ts ≤ n → out ≡ out ++ expanded_terms k (drop n ts)
  unfolding definitions
  all_terms ts out n h = sym (ap (λ l. out ++ expanded_terms k l) (drop_of_length-le ts h) ∙ append-nil out)

  -- ---- clauses
  -- with its terms at all sites
  pub clause_made :
      (c : Clause) (terms : Listed Term) (slack : ℤ) → terms.items ≡ expanded_terms k c.terms.items → slack ≡ c.slack →
      plain_clause (record { terms = terms; slack = slack }) ≡ expanded_clause k (plain_clause c)
  unfolding definitions
  clause_made c terms slack p q = λ i. let d : template.Clause = record { terms = p i; slack = q i } in d

  -- once all are made
  pub clauses_made :
      (cs made : List Clause) (n : ℕ) → length cs ≤ n →
      map plain_clause made ≡ map (λ c. expanded_clause k (plain_clause c)) (take n cs) →
      map plain_clause made ≡ map (expanded_clause k) (map plain_clause cs)
  clauses_made cs made n h p = p ∙ ap (map (λ c. expanded_clause k (plain_clause c))) (take_all n cs h) ∙ both cs
    where
      both : (xs : List Clause) → map (λ c. expanded_clause k (plain_clause c)) xs ≡ map (expanded_clause k) (map plain_clause xs)
      both [] = refl
      both (x ∷ xs) = ap (λ l. expanded_clause k (plain_clause x) ∷ l) (both xs)
