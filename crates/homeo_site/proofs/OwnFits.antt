-- After a call's local step the sums of the site's terms fit, in each clause.
use Rattle.std.proofs.Common.{ℕ, ◌+◌, ◌*◌, ◌^◌, ◌≤◌, List, [], ◌∷◌, length, ℤ, ◌+ℤ◌, All, arith}
use Rattle.std.specs.Int.RustNames.{unsigned_abs}
use Rattle.std.proofs.lemmas.Int.{ints}
use Rattle.std.proofs.lemmas.List.Elements.{All-nil, All-cons}
use Rattle.homeo_syntax.specs.Source as s
use Rattle.homeo_meaning.specs.Acceptance.{IsAccepted}
use Rattle.homeo_meaning.specs.Bounds.{AllWithin, IsWithin}
use Rattle.homeo_meaning.specs.Schema.{schema_of}
use Rattle.homeo_meaning.specs.Serial.{values_of}
use Rattle.homeo_meaning.proofs.Within.{all_within}
use Rattle.homeo_plan.specs.Key.{definitions as plan_definitions}
use Rattle.homeo_plan.specs.Config.{Config}
use Rattle.homeo_plan.specs.Each.{Each}
use Rattle.homeo_plan.specs.Joined.{Deltas}
use Rattle.homeo_plan.specs.Planned.{template_at}
use Rattle.homeo_plan.specs.Template.{Clause}
use Rattle.homeo_plan.proofs.GroundNumbers.{values_small}
use Rattle.homeo_site.specs.Key.{definitions}
use Rattle.homeo_site.specs.OwnTreaty.{SumsFit, own_terms, OwnClause, own_clauses}
use Rattle.homeo_site.proofs.Limits.{few_values}
use Rattle.homeo_site.proofs.LocalSteps.{no_delta_past}
use Rattle.homeo_site.proofs.OwnSums.{own_rises, own_factors, sums_fit}
use Rattle.homeo_site.proofs.TemplateClauses.{IsTidy, template_tidy}

apart_small : (b x : ℤ) → unsigned_abs x ≤ unsigned_abs (b +ℤ x) + unsigned_abs b
apart_small b x = grind (arith, ints)

module _
    (w : s.Workload) (base : List ℤ) (i : ℕ) (x : Deltas) (accepted : IsAccepted w) (within : IsWithin (schema_of w) base)
    (all : AllWithin (schema_of w) (λ n. values_of base n +ℤ x n))
  where
    delta_small : (n : ℕ) → unsigned_abs (x n) ≤ 2 * 10 ^ 12
    delta_small n =
        let here = values_small w accepted (values_of base) (all_within (schema_of w) base within) n in
        let both = values_small w accepted (λ m. values_of base m +ℤ x m) all n in
        omega (arith, apart_small (values_of base n) (x n), here, both)

    clause_fits : (c : Clause) → IsTidy c → SumsFit (own_terms i c.terms) x
    clause_fits c tidy =
        sums_fit (length base) x (own_terms i c.terms) (few_values w base accepted within) delta_small
        (no_delta_past w base x within all) (own_rises i c.terms tidy.sorted) (own_factors i c.terms tidy.small)

    all_fit : (cs : List Clause) (bs : Config) → Each IsTidy cs → All (λ (c : OwnClause). SumsFit c.terms x) (own_clauses i cs bs)
    unfolding definitions plan_definitions
    all_fit [] bs h = All-nil (λ (c : OwnClause). SumsFit c.terms x)
    all_fit (c ∷ cs) [] h =
        All-cons (λ (c : OwnClause). SumsFit c.terms x) _ _ (clause_fits c h.0) (all_fit cs [] h.1)
    all_fit (c ∷ cs) (b ∷ bs) h =
        All-cons (λ (c : OwnClause). SumsFit c.terms x) _ _ (clause_fits c h.0) (all_fit cs bs h.1)

    pub own_clauses_fit : (bs : Config) → All (λ (c : OwnClause). SumsFit c.terms x) (own_clauses i (template_at w base).clauses bs)
    own_clauses_fit bs = all_fit (template_at w base).clauses bs (template_tidy w base accepted within)
