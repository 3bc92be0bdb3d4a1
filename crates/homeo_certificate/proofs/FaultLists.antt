-- What it means that there is no fault.
use Rattle.homeo_meaning.specs.Key.{definitions as meaning_definitions}
use Rattle.homeo_plan.specs.Key.{definitions as plan_definitions}
use Rattle.homeo_certificate.specs.Key.{definitions}
use Rattle.std.proofs.Common.{◌≡◌, Bool, true, false, cond, ◌||◌, List, [], ◌∷◌, ◌++◌, neg_ℤ, int_le, ◌≤ℤ◌, refl, sym, subst, true≢false, arith}
use Rattle.std.proofs.lemmas.Int.{ints}
use Rattle.std.specs.List.{list_any, flat_map}
use Rattle.std.proofs.lemmas.Bool.{and_parts}
use Rattle.homeo_lemmas.proofs.Lists.{not_nil}
use Rattle.homeo_meaning.specs.LowMeaning.{State}
use Rattle.homeo_plan.specs.Each.{Each}
use Rattle.homeo_plan.specs.declared.forms.Delta.{Delta}
use Rattle.homeo_plan.specs.Linear.{same_delta, Linear, is_empty, terms_value}
use Rattle.homeo_plan.specs.Template.{Clause, same_terms, clause_of}
use Rattle.homeo_plan.proofs.Factors.{same_delta_is}
use Rattle.homeo_plan.proofs.Covering.{same_terms_is}
use Rattle.homeo_plan.specs.Tracking.{ClauseHolds}
use Rattle.homeo_certificate.specs.declared.fault.Fault.TheVariants.{NotFrozen, NoClause}
use Rattle.homeo_certificate.specs.Followed.{Rules, not_frozen, keeps, no_clause}

-- two lists make none only where both are none
pub none_of_both : {X : Type 0} (xs ys : List X) → xs ++ ys ≡ [] → (xs ≡ []) × (ys ≡ [])
none_of_both [] ys e = (refl, e)
none_of_both (x ∷ xs) ys e = absurd (not_nil x (xs ++ ys) e)

pub none_of_each : {X Y : Type 0} (f : X → List Y) (xs : List X) → flat_map f xs ≡ [] → Each (λ x. f x ≡ []) xs
unfolding plan_definitions
none_of_each f [] e = tt
none_of_each f (x ∷ xs) e = let p = none_of_both (f x) (flat_map f xs) e in (p.0, none_of_each f xs p.1)

pub is_true_if : {X : Type 0} (b : Bool) (x : X) → cond b [] (x ∷ []) ≡ [] → b ≡ true
is_true_if true x e = refl
is_true_if false x e = absurd (not_nil x [] e)

-- what holds of each frozen delta holds of one that is found among them
among : (P : Delta → Type 0) (d : Delta) (ds : List Delta) → list_any (same_delta d) ds ≡ true → Each P ds → P d
unfolding plan_definitions
among P d [] e h = absurd (true≢false (sym e))
among P d (a ∷ ds) e h = go (same_delta d a) refl (among P d ds) e
  where
    go :
        (v : Bool) → same_delta d a ≡ v → (list_any (same_delta d) ds ≡ true → Each P ds → P d) →
        (v || list_any (same_delta d) ds) ≡ true → P d
    go true q ih e = subst P (sym (same_delta_is d a q)) h.0
    go false q ih e = ih e h.1

pub all_frozen : (P : Delta → Type 0) (r : Rules) (ds : List Delta) → Each P r.freezes → not_frozen r ds ≡ [] → Each P ds
unfolding definitions plan_definitions
all_frozen P r [] h e = tt
all_frozen P r (d ∷ ds) h e =
    let p = none_of_both (cond (list_any (same_delta d) r.freezes) [] (NotFrozen d ∷ [])) (not_frozen r ds) e in
    (among P d r.freezes (is_true_if (list_any (same_delta d) r.freezes) (NotFrozen d) p.0) h, all_frozen P r ds h p.1)

module _ (s : State) (a : Linear) where
  -- the sum that the form has is at most its constant, negated
  abbrev IsKeptBelow : Type 0
  IsKeptBelow = terms_value a.terms s ≤ℤ neg_ℤ a.constant

  kept_by : (c : Clause) → keeps a c ≡ true → ClauseHolds s c → ClauseHolds s (clause_of a)
  unfolding definitions plan_definitions meaning_definitions
  kept_by c e h =
      let p = and_parts (same_terms a.terms c.terms) (int_le c.slack (neg_ℤ a.constant)) e in
      let t = same_terms_is a.terms c.terms p.0 in
      let below : terms_value a.terms s ≤ℤ c.slack = subst (λ ts. terms_value ts s ≤ℤ c.slack) (sym t) h in
      grind (arith, ints, below, p.1)

  kept_by_one : (cs : List Clause) → list_any (keeps a) cs ≡ true → Each (ClauseHolds s) cs → ClauseHolds s (clause_of a)
  unfolding definitions plan_definitions meaning_definitions
  kept_by_one [] e h = absurd (true≢false (sym e))
  kept_by_one (c ∷ cs) e h = go (keeps a c) refl (kept_by_one cs) e
    where
      go :
          (v : Bool) → keeps a c ≡ v → (list_any (keeps a) cs ≡ true → Each (ClauseHolds s) cs → ClauseHolds s (clause_of a)) →
          (v || list_any (keeps a) cs) ≡ true → ClauseHolds s (clause_of a)
      go true q ih e = kept_by c q h.0
      go false q ih e = ih e h.1

  pub clause_kept : (r : Rules) → Each (ClauseHolds s) r.clauses → no_clause r a ≡ [] → is_empty a.terms ≡ false → ClauseHolds s (clause_of a)
  unfolding definitions plan_definitions meaning_definitions
  clause_kept r h e q =
      let p : cond (list_any (keeps a) r.clauses) [] (NoClause ∷ []) ≡ [] =
      subst (λ v. cond v [] (cond (list_any (keeps a) r.clauses) [] (NoClause ∷ [])) ≡ []) q e in
      kept_by_one r.clauses (is_true_if (list_any (keeps a) r.clauses) NoClause p) h
