-- The clauses of a plan by their numbers: their terms, slacks and bounds, and what a site keeps of them.
use Rattle.std.proofs.Common.{◌≡◌, ℕ, zero, suc, ◌<◌, List, [], ◌∷◌, map, length, get_or, ℤ, pos, ◌*ℤ◌, ◌≤ℤ◌, All, false, Option, Some, None, is_some, refl, sym, ap, ◌∙◌, subst, arith}
use Rattle.std.specs.Prelude.{replicate}
use Rattle.std.proofs.lemmas.List.{length-map, get_or-map, get_or_default}
use Rattle.homeo_plan.specs.Key.{definitions as plan_definitions}
use Rattle.homeo_plan.specs.declared.forms.Term.{Term}
use Rattle.homeo_plan.specs.declared.templates.Config as code
use Rattle.homeo_plan.specs.Config.{Config, HaveSlack, split, even}
use Rattle.homeo_plan.specs.Each.{Each}
use Rattle.homeo_plan.specs.Joined.{Deltas}
use Rattle.homeo_plan.specs.PlanView.{plain_config}
use Rattle.homeo_plan.specs.Template.{Clause}
use Rattle.homeo_plan.specs.Treaty.{site_sum, bound_at}
use Rattle.homeo_follow.specs.Key.{definitions as follow_definitions}
use Rattle.homeo_follow.specs.ObjectTemplate.{expanded_clause}
use Rattle.homeo_outline.specs.Key.{definitions as outline_definitions}
use Rattle.homeo_outline.specs.ObjectPlan.{clauses_with, template_with, template_in, config_or, config_in}
use Rattle.homeo_outline.specs.declared.plan.ObjectPlan.{ObjectPlan}
use Rattle.homeo_outline.proofs.Slacks.{clause_count, clause_read}
use Rattle.homeo_site.specs.Key.{definitions}
use Rattle.homeo_site.specs.OwnTreaty.{own_term, OwnClause, own_terms, own_sum, SumsFit, own_clauses}
use Rattle.homeo_site.proofs.ObjectTerms.{own_all}
use Rattle.homeo_site.proofs.OwnTerms.{own_sum_is, even_at, within_even}

-- ---- clauses of these terms and slacks
pub slack_at :
    (P : ℤ → Type 0) (tss : List (List Term)) (ss : List ℤ) (n : ℕ) → n < length tss → Each (λ c. P c.slack) (clauses_with tss ss) →
    P (get_or ss n (pos 0))
unfolding plan_definitions outline_definitions
slack_at P [] ss n lt h = absurd (omega arith)
slack_at P (ts ∷ tss) [] zero lt h = h.0
slack_at P (ts ∷ tss) [] (suc n) lt h = slack_at P tss [] n (omega arith) h.1
slack_at P (ts ∷ tss) (s ∷ ss) zero lt h = h.0
slack_at P (ts ∷ tss) (s ∷ ss) (suc n) lt h = slack_at P tss ss n (omega arith) h.1

-- ---- what a site keeps of a clause
own_at :
    (i : ℕ) (cs : List Clause) (bs : Config) (n : ℕ) (c : Clause) (d : OwnClause) → n < length cs →
    get_or (own_clauses i cs bs) n d ≡ record { terms = own_terms i (get_or cs n c).terms; bound = bound_at (get_or bs n []) i }
unfolding definitions plan_definitions
own_at i [] bs n c d lt = absurd (omega arith)
own_at i (a ∷ cs) [] zero c d lt = refl
own_at i (a ∷ cs) [] (suc n) c d lt = own_at i cs [] n c d (omega arith)
own_at i (a ∷ cs) (b ∷ bs) zero c d lt = refl
own_at i (a ∷ cs) (b ∷ bs) (suc n) c d lt = own_at i cs bs n c d (omega arith)

pub own_count : (i : ℕ) (cs : List Clause) (bs : Config) → length (own_clauses i cs bs) ≡ length cs
unfolding definitions
own_count i [] bs = refl
own_count i (c ∷ cs) [] = ap suc (own_count i cs [])
own_count i (c ∷ cs) (b ∷ bs) = ap suc (own_count i cs bs)

-- ---- clauses over whole objects of k sites
module _ (k : ℕ) (tss : List (List Term)) (ss : List ℤ) where
  abbrev clauses : List Clause
  clauses = map (expanded_clause k) (clauses_with tss ss)

  pub expanded_count : length clauses ≡ length tss
  expanded_count = length-map (clauses_with tss ss) (expanded_clause k) ∙ clause_count tss ss

  module _ (n : ℕ) (lt : n < length tss) where
    none : Clause
    none = record { terms = []; slack = pos 0 }

    here : n < length clauses
    here = subst (λ m. n < m) (sym expanded_count) lt

    expanded_at : get_or clauses n (expanded_clause k none) ≡ expanded_clause k (record { terms = get_or tss n []; slack = get_or ss n (pos 0) })
    expanded_at =
        get_or-map (expanded_clause k) (clauses_with tss ss) n none (expanded_clause k none) (subst (λ m. n < m) (sym (clause_count tss ss)) lt)
        ∙ ap (expanded_clause k) (clause_read tss ss n none lt)

    pub slack_of : (c : Clause) → (get_or clauses n c).slack ≡ get_or ss n (pos 0)
    unfolding follow_definitions
    slack_of c = ap (λ (d : Clause). d.slack) (get_or_default clauses n c (expanded_clause k none) here ∙ expanded_at)

    pub even_split : get_or (even k clauses) n [] ≡ split (replicate k 1) (get_or ss n (pos 0))
    unfolding follow_definitions
    even_split =
        even_at k clauses n (expanded_clause k none) here ∙ ap (λ (c : Clause). split (replicate k 1) c.slack) expanded_at

    pub own_clause :
        (i : ℕ) → i < k → (bs : Config) (d : OwnClause) →
        get_or (own_clauses i clauses bs) n d ≡ record { terms = map own_term (get_or tss n []); bound = bound_at (get_or bs n []) i }
    unfolding follow_definitions
    own_clause i less bs d =
        own_at i clauses bs n (expanded_clause k none) d here
        ∙ ap (λ ts. record { terms = ts; bound = bound_at (get_or bs n []) i })
        (ap (λ (c : Clause). own_terms i c.terms) expanded_at ∙ own_all k i less (get_or tss n []))

-- ---- the clauses of a plan, with bounds where some are given
pub none_given : (given : Option code.Config) → is_some given ≡ false → given ≡ None
none_given None e = refl
none_given (Some c) e = cc

module _ (p : ObjectPlan) where
  pub template_count : length (template_in p).clauses ≡ length p.outline.value.terms
  unfolding follow_definitions outline_definitions
  template_count = expanded_count p.outline.value.sites p.outline.value.terms p.slacks.items

  pub given_config : (c : code.Config) → p.bounds ≡ Some c → plain_config c ≡ config_in p
  unfolding outline_definitions
  given_config c given = ap (config_or (even p.outline.value.sites (template_in p).clauses)) (sym given)

  module _ (n : ℕ) (within : n < length (template_in p).clauses) where
    abbrev slack : ℤ
    slack = get_or p.slacks.items n (pos 0)

    there : n < length p.outline.value.terms
    there = subst (λ m. n < m) template_count within

    pub slack_is : (P : ℤ → Type 0) → Each (λ c. P c.slack) (template_with p.outline.value p.slacks.items).clauses → P slack
    unfolding outline_definitions
    slack_is P h = slack_at P p.outline.value.terms p.slacks.items n there h

    pub slack_here : (c : Clause) → (get_or (template_in p).clauses n c).slack ≡ slack
    unfolding follow_definitions outline_definitions
    slack_here = slack_of p.outline.value.sites p.outline.value.terms p.slacks.items n there

    pub even_config : p.bounds ≡ None → get_or (config_in p) n [] ≡ split (replicate p.outline.value.sites 1) slack
    unfolding follow_definitions outline_definitions
    even_config none =
        ap (λ bs. get_or (config_or (even p.outline.value.sites (template_in p).clauses) bs) n []) none
        ∙ even_split p.outline.value.sites p.outline.value.terms p.slacks.items n there

    pub within_each :
        p.bounds ≡ None → HaveSlack (template_with p.outline.value p.slacks.items).clauses → (i : ℕ) → i < p.outline.value.sites → (sum : ℤ) →
        (sum *ℤ pos p.outline.value.sites) ≤ℤ slack → sum ≤ℤ bound_at (get_or (config_in p) n []) i
    unfolding plan_definitions
    within_each none room i site sum h =
        subst (λ b. sum ≤ℤ bound_at b i) (sym (even_config none))
        (within_even p.outline.value.sites i slack sum site (slack_is (λ z. pos 0 ≤ℤ z) room) h)

    pub own_is :
        (i : ℕ) → i < p.outline.value.sites → (d : OwnClause) →
        get_or (own_clauses i (template_in p).clauses (config_in p)) n d ≡
        record { terms = map own_term (get_or p.outline.value.terms n []); bound = bound_at (get_or (config_in p) n []) i }
    unfolding follow_definitions outline_definitions
    own_is i site d = own_clause p.outline.value.sites p.outline.value.terms p.slacks.items n there i site (config_in p) d

    -- a site's sum is that of the terms over whole objects, and they can be summed where those of all clauses can
    module _ (i : ℕ) (site : i < p.outline.value.sites) (x : Deltas) where
      no_clause : OwnClause
      no_clause = record { terms = []; bound = pos 0 }

      pub sum_is : (c : Clause) → own_sum (map own_term (get_or p.outline.value.terms n [])) x ≡ site_sum i (get_or (template_in p).clauses n c).terms x
      sum_is c =
          ap (λ (o : OwnClause). own_sum o.terms x) (sym (own_is i site no_clause) ∙ own_at i (template_in p).clauses (config_in p) n c no_clause within)
          ∙ own_sum_is i (get_or (template_in p).clauses n c).terms x

      pub fits_at : All (λ (o : OwnClause). SumsFit o.terms x) (own_clauses i (template_in p).clauses (config_in p)) → SumsFit (map own_term (get_or p.outline.value.terms n [])) x
      fits_at fit =
          subst (λ (o : OwnClause). SumsFit o.terms x) (own_is i site no_clause)
          (fit n no_clause (subst (λ m. n < m) (sym (own_count i (template_in p).clauses (config_in p))) within))
