-- What a site keeps of a treaty fails as the treaty does, number by number.
use Rattle.std.proofs.Common.{◌≡◌, ℕ, zero, suc, ◌+◌, ◌<◌, List, [], ◌∷◌, length, get_or, ℤ, pos, refl, sym, ap, ap₂, ◌∙◌, subst, arith}
use Rattle.homeo_syntax.specs.Source as s
use Rattle.homeo_meaning.specs.Key.{definitions as meaning_definitions}
use Rattle.homeo_meaning.specs.LowMeaning.{whole}
use Rattle.homeo_meaning.specs.Serial.{values_of}
use Rattle.homeo_plan.specs.Key.{definitions as plan_definitions}
use Rattle.homeo_plan.specs.declared.forms.Delta.{Delta}
use Rattle.homeo_plan.specs.Each.{Member}
use Rattle.homeo_plan.specs.Joined.{Deltas}
use Rattle.homeo_plan.specs.Linear.{delta_of}
use Rattle.homeo_plan.specs.Needs.{IsStraight}
use Rattle.homeo_plan.specs.Planned.{sites_of, planned}
use Rattle.homeo_plan.specs.Table.{Row}
use Rattle.homeo_plan.specs.Template.{PlannedCall, Clause, shifted, base_row}
use Rattle.homeo_plan.specs.Config.{Config}
use Rattle.homeo_plan.specs.Treaty.{bound_at, KeepsClauses}
use Rattle.homeo_plan.proofs.Replays.{planned_whole}
use Rattle.homeo_plan.proofs.Straight.{walk_straight}
use Rattle.homeo_plan.proofs.Tables.{row_at_walk}
use Rattle.homeo_site.specs.Key.{definitions}
use Rattle.homeo_site.specs.inner.Failures.{sum_failure, freeze_failure, freeze_failure_from, failure_from}
use Rattle.homeo_site.specs.OwnTreaty.{own_sum, own_clauses}
use Rattle.homeo_site.proofs.OwnTerms.{own_sum_is}

-- ---- what the site keeps fails as the treaty does
pub clause_at :
    (k i : ℕ) (x y : Deltas) (cs : List Clause) (bs : Config) (ds : List Delta) (m : ℕ) → KeepsClauses i x cs bs → m < length cs →
    sum_failure (k + m) (own_sum (get_or (own_clauses i cs bs) m (record { terms = []; bound = pos 0 })).terms y)
    (get_or (own_clauses i cs bs) m (record { terms = []; bound = pos 0 })).bound ≡ failure_from k i y cs bs ds m
unfolding definitions plan_definitions
clause_at k i x y [] bs ds m keeps lt = absurd (omega arith)
clause_at k i x y (c ∷ cs) [] ds m keeps lt = absurd keeps
clause_at k i x y (c ∷ cs) (b ∷ bs) ds zero keeps lt =
    let e : k + 0 ≡ k = omega arith in
    ap₂ (λ n z. sum_failure n z (bound_at b i)) e (own_sum_is i c.terms y)
clause_at k i x y (c ∷ cs) (b ∷ bs) ds (suc m) keeps lt =
    let e : k + suc m ≡ suc k + m = omega arith in
    ap
    (λ n. sum_failure n (own_sum (get_or (own_clauses i cs bs) m (record { terms = []; bound = pos 0 })).terms y)
    (get_or (own_clauses i cs bs) m (record { terms = []; bound = pos 0 })).bound) e
    ∙ clause_at (suc k) i x y cs bs ds m keeps.1 (omega arith)

pub freeze_at :
    (k i : ℕ) (y : Deltas) (ds : List Delta) (m : ℕ) → m < length ds →
    freeze_failure (k + m) i y (get_or ds m (delta_of 0 0)) ≡ freeze_failure_from k i y ds m
unfolding definitions plan_definitions
freeze_at k i y [] m lt = absurd (omega arith)
freeze_at k i y (d ∷ ds) zero lt = let e : k + 0 ≡ k = omega arith in ap (λ n. freeze_failure n i y d) e
freeze_at k i y (d ∷ ds) (suc m) lt =
    let e : k + suc m ≡ suc k + m = omega arith in
    ap (λ n. freeze_failure n i y (get_or ds m (delta_of 0 0))) e ∙ freeze_at (suc k) i y ds m (omega arith)

pub past_clauses :
    (k i : ℕ) (x y : Deltas) (cs : List Clause) (bs : Config) (ds : List Delta) (m : ℕ) → KeepsClauses i x cs bs →
    freeze_failure_from (k + length cs) i y ds m ≡ failure_from k i y cs bs ds (length cs + m)
unfolding definitions plan_definitions
past_clauses k i x y [] bs ds m keeps =
    let e : k + 0 ≡ k = omega arith in
    let f : m ≡ 0 + m = omega arith in
    ap₂ (λ n j. freeze_failure_from n i y ds j) e f
past_clauses k i x y (c ∷ cs) [] ds m keeps = absurd keeps
past_clauses k i x y (c ∷ cs) (b ∷ bs) ds m keeps =
    let e : k + suc (length cs) ≡ suc k + length cs = omega arith in
    let f : suc (length cs + m) ≡ suc (length cs) + m = omega arith in
    ap (λ n. freeze_failure_from n i y ds m) e ∙ past_clauses (suc k) i x y cs bs ds m keeps.1
    ∙ ap (failure_from k i y (c ∷ cs) (b ∷ bs) ds) f

-- ---- the residual of a call
pub residual_straight :
    (w : s.Workload) (base : List ℤ) (g : PlannedCall) → Member g (planned w) →
    IsStraight (base_row (sites_of w) (values_of base) g).residual
unfolding plan_definitions meaning_definitions
residual_straight w base g member =
    subst (λ (r : Row). IsStraight r.residual) (sym (row_at_walk (shifted (sites_of w) g) (whole (values_of base)) (λ t. refl)))
    (walk_straight (sites_of w) g.site g.command (whole (values_of base)) (planned_whole w g member))
