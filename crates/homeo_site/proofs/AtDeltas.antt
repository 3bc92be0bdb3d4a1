-- What a site finds to fail of its treaty at any deltas, with which base plus deltas is within bounds.
use Rattle.std.proofs.Common.{◌≡◌, ℕ, zero, suc, ◌+◌, ◌<◌, ◌≤◌, nat_eq, nat_lt, Bool, true, false, List, [], ◌∷◌, ◌++◌, length, get_or, ℤ, pos, ◌+ℤ◌, All, Option, Some, None, refl, sym, ap, ap₂, ◌∙◌, subst, arith}
use Rattle.std.specs.Prelude.{◌||◌, ◌==◌}
use Rattle.std.specs.List.{range_with_len, list_any}
use Rattle.std.proofs.lemmas.Bool.Decides.{nat_tests}
use Rattle.std.proofs.lemmas.List.{get_or_past}
use Rattle.homeo_lemmas.proofs.Lists.{range_more}
use Rattle.homeo_syntax.specs.Source as s
use Rattle.homeo_syntax.specs.SourceView.{plain_workload}
use Rattle.homeo_meaning.specs.Key.{definitions as meaning_definitions}
use Rattle.homeo_meaning.specs.Bounds.{AllWithin, IsWithin}
use Rattle.homeo_meaning.specs.Schema.{schema_of}
use Rattle.homeo_meaning.specs.Serial.{values_of}
use Rattle.homeo_plan.specs.Key.{definitions as plan_definitions}
use Rattle.homeo_plan.specs.declared.treaty.Broken.{Broken}
use Rattle.homeo_plan.specs.Config.{Config}
use Rattle.homeo_plan.specs.Joined.{Deltas}
use Rattle.homeo_plan.specs.Local.{no_deltas}
use Rattle.homeo_plan.specs.Planned.{sites_of, template_at, policy}
use Rattle.homeo_plan.specs.Template.{Template}
use Rattle.homeo_plan.specs.Treaty.{Treaty, finding}
use Rattle.homeo_plan.proofs.Findings.{finding_law}
use Rattle.homeo_plan.proofs.OwnWithin.{zero_keeps}
use Rattle.homeo_plan.proofs.Policy.{policy_fits}
use Rattle.homeo_outline.specs.Numbers.{has}
use Rattle.homeo_outline.specs.ObjectPlan.{template_in, config_in}
use Rattle.homeo_outline.specs.declared.plan.ObjectPlan.{ObjectPlan}
use Rattle.homeo_history.specs.Key.{definitions as history_definitions}
use Rattle.homeo_history.specs.Replayed.{MeetsTreaty, finding_at}
use Rattle.homeo_history.specs.declared.history.Segment.{Segment}
use Rattle.homeo_site.specs.OwnTreaty.{OwnClause, SumsFit, own_clauses}
use Rattle.homeo_site.specs.SiteView.{StartValue}
use Rattle.homeo_site.specs.Standing.{IsStart}
use Rattle.homeo_site.specs.inner.Bare.{IsBare}
use Rattle.homeo_site.specs.inner.OwnRound.{IsOwnRound}
use Rattle.homeo_site.proofs.Limits.{few_values}
use Rattle.homeo_site.proofs.OwnFits.{own_clauses_fit}

-- ---- all numbers up to one
is_there : (n a k : ℕ) → a ≤ n → n < a + k → has n (range_with_len a k) ≡ true
is_there n a zero le lt = let never : ⊥ = omega arith in absurd never
is_there n a (suc k) le lt =
    by (λ h. is_there n (a + 1) k h (let g : n < (a + 1) + k = omega arith in g)) (nat_eq n a) refl
  where
    by : (a + 1 ≤ n → has n (range_with_len (a + 1) k) ≡ true) → (t : Bool) → nat_eq n a ≡ t → (nat_eq n a || list_any (λ m. n == m) (range_with_len (a + 1) k)) ≡ true
    by rest true e = ap (λ t. t || list_any (λ m. n == m) (range_with_len (a + 1) k)) e
    by rest false e =
        let more : a + 1 ≤ n = grind (arith, nat_tests) in
        ap (λ t. t || list_any (λ m. n == m) (range_with_len (a + 1) k)) e ∙ rest more

no_more : (k n : ℕ) (xs : List ℤ) → length xs ≤ k → has n (range_with_len 0 k) ≡ false → values_of xs n ≡ pos 0
unfolding meaning_definitions
no_more k n xs le none = by (nat_lt n (length xs)) refl
  where
    by : (t : Bool) → nat_lt n (length xs) ≡ t → get_or xs n (pos 0) ≡ pos 0
    by true e =
        let lt : n < length xs = grind (arith, nat_tests) in
        let there : has n (range_with_len 0 k) ≡ true = is_there n 0 k (omega arith) (let g : n < 0 + k = omega (arith, lt, le) in g) in
        absurd (cc)
    by false e = get_or_past xs n (pos 0) (let g : length xs ≤ n = grind (arith, nat_tests) in g)

pub objects_next : (now next : List ℕ) (n : ℕ) → now ≡ range_with_len 0 n → next ≡ now ++ n ∷ [] → next ≡ range_with_len 0 (n + 1)
objects_next now next n e f =
    let more : range_with_len 0 (suc n) ≡ range_with_len 0 n ++ (0 + n) ∷ [] = range_more 0 n in
    let same : n ≡ 0 + n = omega arith in
    let one : suc n ≡ n + 1 = omega arith in
    f ∙ ap (λ l. l ++ n ∷ []) e ∙ ap (λ m. range_with_len 0 n ++ m ∷ []) same ∙ sym more ∙ ap (range_with_len 0) one

module _ (w : s.Workload) (p : ObjectPlan) (i : ℕ) (own : IsOwnRound w p i) (ds : List ℤ) (base : IsWithin (schema_of w) p.base.items) (within : AllWithin (schema_of w) (λ n. values_of p.base.items n +ℤ values_of ds n)) where
  pub all_fit : All (λ (c : OwnClause). SumsFit c.terms (values_of ds)) (own_clauses i (template_in p).clauses (config_in p))
  all_fit =
      subst (λ (t : Template). All (λ (c : OwnClause). SumsFit c.terms (values_of ds)) (own_clauses i t.clauses (config_in p))) (sym own.plan.template)
      (own_clauses_fit w p.base.items i (values_of ds) own.accepted base within (config_in p))

  met : Treaty (template_in p) (config_in p) i no_deltas
  met =
      subst (λ (t : Template). Treaty t (config_in p) i no_deltas) (sym own.plan.template)
      (subst (λ (c : Config). Treaty (template_at w p.base.items) c i no_deltas) (sym own.bounds)
      (zero_keeps (sites_of w) (template_at w p.base.items) (policy w p.base.items) i (policy_fits w p.base.items own.accepted)))

  pub finds : (k : ℕ) → length ds ≤ k → (objects : List ℕ) → objects ≡ range_with_len 0 k → (o : Option Broken) → ((before : Deltas) → Treaty (template_in p) (config_in p) i before → ((n : ℕ) → has n objects ≡ false → values_of ds n ≡ before n) → o ≡ finding (template_in p) (config_in p) i (values_of ds)) → o ≡ finding_at w p.base.items i (values_of ds)
  unfolding history_definitions plan_definitions
  finds k le objects are o found =
      found no_deltas met (λ n none. no_more k n ds le (ap (has n) (sym are) ∙ none))
      ∙ ap₂ (λ (t : Template) (c : Config). finding t c i (values_of ds)) own.plan.template own.bounds

-- ---- a site that begins at deltas
module _ (v : StartValue) (x : List ℤ) (t : Segment) (start : IsStart v x t) (u : StartValue) (is : v ≡ u) (ds : List ℤ) (count : length ds ≡ length u.base) (within : AllWithin (schema_of (plain_workload u.work)) (λ n. values_of u.base n +ℤ values_of ds n)) (lent : List ℤ) (same : lent ≡ ds) where
  pub within_here : AllWithin (schema_of (plain_workload v.work)) (λ n. values_of v.base n +ℤ values_of lent n)
  within_here =
      subst (λ (l : List ℤ). AllWithin (schema_of (plain_workload v.work)) (λ n. values_of v.base n +ℤ values_of l n)) (sym same)
      (subst (λ (y : StartValue). AllWithin (schema_of (plain_workload y.work)) (λ n. values_of y.base n +ℤ values_of ds n)) (sym is) within)

  pub count_here : length lent ≡ length v.base
  count_here = ap length same ∙ count ∙ ap (λ (y : StartValue). length y.base) (sym is)

  pub few_here : length lent ≤ 1024
  few_here = let few = few_values (plain_workload v.work) v.base start.accepted start.within in let c = count_here in omega (arith, few, c)

  module _ (o : Option Broken) (found : o ≡ finding_at (plain_workload v.work) v.base v.number (values_of lent)) where
    found_ds : o ≡ finding_at (plain_workload v.work) v.base v.number (values_of ds)
    found_ds = found ∙ ap (λ l. finding_at (plain_workload v.work) v.base v.number (values_of l)) same

    pub begin_bare : o ≡ None → IsBare v ds
    unfolding history_definitions
    begin_bare none = record {
      accepted = start.accepted;
      ready = record {
        site = start.site;
        within = start.within;
        count = sym (ap length same) ∙ count_here;
        meets = (finding_law (template_at (plain_workload v.work) v.base) (policy (plain_workload v.work) v.base) v.number (values_of ds)).none (sym found_ds ∙ none);
        all = subst (λ (l : List ℤ). AllWithin (schema_of (plain_workload v.work)) (λ n. values_of v.base n +ℤ values_of l n)) same within_here;
      };
    }

    pub begin_meets : (b : Broken) → o ≡ Some b → MeetsTreaty (plain_workload u.work) u.base u.number (values_of ds) → ⊥
    unfolding history_definitions
    begin_meets b some meets =
        (finding_law (template_at (plain_workload v.work) v.base) (policy (plain_workload v.work) v.base) v.number (values_of ds)).some b (sym found_ds ∙ some)
        (subst (λ (y : StartValue). MeetsTreaty (plain_workload y.work) y.base y.number (values_of ds)) (sym is) meets)
