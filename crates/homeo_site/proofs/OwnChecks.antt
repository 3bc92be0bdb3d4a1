-- What a site checks of a plan's clauses is what the treaty says of its deltas.
use Rattle.std.proofs.Common.{◌≡◌, ℕ, ◌<◌, List, [], map, length, get_or, ℤ, pos, ◌*ℤ◌, ◌≤ℤ◌, int_le, All, true, cond, Some, None, sym, ap, ◌∙◌, subst, arith}
use Rattle.std.proofs.lemmas.Int.{ints}
use Rattle.std.proofs.lemmas.List.{length-map, get_or-map}
use Rattle.homeo_lemmas.proofs.Integers.{at_most_both}
use Rattle.homeo_syntax.specs.Listed.{Listed}
use Rattle.homeo_plan.specs.declared.forms.Delta.{Delta}
use Rattle.homeo_plan.specs.declared.forms.Term.{Term}
use Rattle.homeo_plan.specs.Config.{HaveSlack}
use Rattle.homeo_plan.specs.Joined.{Deltas}
use Rattle.homeo_plan.specs.Treaty.{bound_at}
use Rattle.homeo_follow.specs.Key.{definitions as follow_definitions}
use Rattle.homeo_outline.specs.Key.{definitions as outline_definitions}
use Rattle.homeo_outline.specs.ObjectPlan.{template_with, template_in, config_in}
use Rattle.homeo_outline.specs.declared.plan.ObjectPlan.{ObjectPlan}
use Rattle.homeo_site.specs.Key.{definitions}
use Rattle.homeo_site.specs.inner.Failures.{sum_failure, own_failure}
use Rattle.homeo_site.specs.OwnTreaty.{own_term, OwnClause, own_sum, SumsFit, own_clauses}
use Rattle.homeo_site.proofs.PlanClauses.{template_count, within_each, own_is, fits_at}

-- ---- the template of a plan
module _ (p : ObjectPlan) where
  pub lent_count : (ls : List (Listed Term)) → map (λ (l : Listed Term). l.items) ls ≡ p.outline.value.terms → length ls ≡ length (template_in p).clauses
  lent_count ls same = sym (length-map ls (λ (l : Listed Term). l.items)) ∙ ap length same ∙ sym (template_count p)

  pub template_freezes : (ds : List Delta) → ds ≡ p.outline.value.freezes → ds ≡ (template_in p).freezes
  unfolding follow_definitions outline_definitions
  template_freezes ds same = same

-- ---- the clause of a number, by its terms as they are lent
module _
    (p : ObjectPlan) (n : ℕ) (within : n < length (template_in p).clauses) (ls : List (Listed Term))
    (lent : map (λ (l : Listed Term). l.items) ls ≡ p.outline.value.terms) (l : Listed Term) (there : l ≡ get_or ls n l)
    (ts : List Term) (terms : ts ≡ l.items)
  where
    pub terms_there : ts ≡ get_or p.outline.value.terms n []
    terms_there =
        let lt : n < length ls = subst (λ m. n < m) (sym (lent_count p ls lent)) within in
        terms ∙ ap (λ (m : Listed Term). m.items) there ∙ sym (get_or-map (λ (m : Listed Term). m.items) ls n l [] lt)
        ∙ ap (λ tss. get_or tss n []) lent

module _
    (p : ObjectPlan) (i n : ℕ) (site : i < p.outline.value.sites) (within : n < length (template_in p).clauses) (ls : List (Listed Term))
    (lent : map (λ (l : Listed Term). l.items) ls ≡ p.outline.value.terms) (l : Listed Term) (there : l ≡ get_or ls n l)
    (ts : List Term) (terms : ts ≡ l.items)
  where
    abbrev cs : List OwnClause
    cs = own_clauses i (template_in p).clauses (config_in p)

    abbrev bound : ℤ
    bound = bound_at (get_or (config_in p) n []) i

    here : ts ≡ get_or p.outline.value.terms n []
    here = terms_there p n within ls lent l there ts terms

    clause_is : (d : OwnClause) → get_or cs n d ≡ record { terms = map own_term ts; bound = bound }
    clause_is d =
        own_is p n within i site d
        ∙ ap (λ us. record { terms = map own_term us; bound = bound }) (sym here)

    -- its sums fit where those of all do
    pub clause_fits : (x : Deltas) → All (λ (o : OwnClause). SumsFit o.terms x) cs → SumsFit (map own_term ts) x
    clause_fits x fit = subst (λ us. SumsFit (map own_term us) x) (sym here) (fits_at p n within i site x fit)

    -- what fails of it
    pub clause_fails : (x : Deltas) → own_failure cs x n ≡ sum_failure n (own_sum (map own_term ts) x) bound
    unfolding definitions
    clause_fails x = ap (λ (o : OwnClause). sum_failure n (own_sum o.terms x) o.bound) (clause_is (record { terms = []; bound = pos 0 }))

    -- nothing does where the sum is at most the bound
    pub nothing_fails : (x : Deltas) (sum : ℤ) → sum ≡ own_sum (map own_term ts) x → sum ≤ℤ bound → None ≡ own_failure cs x n
    unfolding definitions
    nothing_fails x sum is h =
        let le : int_le sum bound ≡ true = grind (arith, ints, h) in
        sym (clause_fails x ∙ ap (λ z. sum_failure n z bound) (sym is) ∙ ap (λ v. cond v None (Some (record { clause = n; sum = sum; bound = bound }))) le)

-- ---- a clause with the terms of another and no less slack: it doesn't fail where so many of the other's sums as there are sites are within its slack
pub none_led_fails :
    (p : ObjectPlan) (i : ℕ) (site : i < p.outline.value.sites) (y : Deltas) (m n : ℕ) → n < length p.outline.value.terms →
    get_or p.outline.value.terms m [] ≡ get_or p.outline.value.terms n [] → get_or p.slacks.items m (pos 0) ≤ℤ get_or p.slacks.items n (pos 0) →
    p.bounds ≡ None → HaveSlack (template_with p.outline.value p.slacks.items).clauses → (sum : ℤ) →
    sum ≡ own_sum (map own_term (get_or p.outline.value.terms m [])) y → (sum *ℤ pos p.outline.value.sites) ≤ℤ get_or p.slacks.items m (pos 0) →
    own_failure (own_clauses i (template_in p).clauses (config_in p)) y n ≡ None
unfolding definitions
none_led_fails p i site y m n lt alike less even room sum is h =
    let within : n < length (template_in p).clauses = subst (λ j. n < j) (sym (template_count p)) lt in
    let bound : ℤ = bound_at (get_or (config_in p) n []) i in
    let slack : (sum *ℤ pos p.outline.value.sites) ≤ℤ get_or p.slacks.items n (pos 0) = at_most_both _ _ _ h less in
    let below : sum ≤ℤ bound = within_each p n within even room i site sum slack in
    let le : int_le sum bound ≡ true = grind (arith, ints, below) in
    ap (λ (o : OwnClause). sum_failure n (own_sum o.terms y) o.bound) (own_is p n within i site (record { terms = []; bound = pos 0 }))
    ∙ ap (λ ts. sum_failure n (own_sum (map own_term ts) y) bound) (sym alike) ∙ ap (λ z. sum_failure n z bound) (sym is)
    ∙ ap (λ v. cond v None (Some (record { clause = n; sum = sum; bound = bound }))) le
