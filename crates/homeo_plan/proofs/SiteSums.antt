-- Where every site keeps its treaty, each clause holds of the sum over sites, and each frozen delta is 0.
use Rattle.homeo_meaning.specs.Key.{definitions as meaning_definitions}
use Rattle.homeo_plan.specs.Key.{definitions}
use Rattle.std.proofs.Common.{◌≡◌, ℕ, ◌<◌, nat_lt, Bool, true, false, cond, List, [], ◌∷◌, length, ℤ, pos, ◌+ℤ◌, ◌*ℤ◌, ◌≤ℤ◌, refl, sym, ap, ap₂, ◌∙◌, arith}
use Rattle.std.proofs.lemmas.Int.{ints}
use Rattle.std.proofs.lemmas.Bool.Decides.{nat_tests}
use Rattle.homeo_plan.specs.Each.{Each}
use Rattle.homeo_plan.specs.Split.{sum_from}
use Rattle.homeo_plan.specs.Joined.{Deltas, join}
use Rattle.homeo_plan.specs.declared.forms.Delta.{Delta}
use Rattle.homeo_plan.specs.declared.forms.Term.{Term}
use Rattle.homeo_plan.specs.Linear.{terms_value, IsZeroAt}
use Rattle.homeo_plan.specs.Template.{Clause}
use Rattle.homeo_plan.specs.Config.{Config, total, Fits}
use Rattle.homeo_plan.specs.Treaty.{site_sum, bound_at, KeepsClauses, KeepsFreezes}
use Rattle.homeo_plan.specs.Tracking.{ClauseHolds}
use Rattle.homeo_plan.proofs.Sums.{sum_zero, sum_add, sum_le_below, sum_next, sum_at}

terms_split : (k : ℕ) (b : ℕ → ℤ) (d : ℕ → Deltas) (ts : List Term) → terms_value ts (join k b d) ≡ sum_from 0 k (λ i. site_sum i ts (d i))
unfolding definitions meaning_definitions
terms_split k b d [] = sym (sum_zero 0 k)
terms_split k b d (t ∷ ts) =
    ap₂ ◌+ℤ◌ (times (nat_lt t.delta.site k) ∙ sym (sum_at t.delta.site k (λ i. t.factor *ℤ d i t.delta.object))) (terms_split k b d ts)
    ∙ sym (sum_add 0 k _ _)
  where
    times : (v : Bool) → t.factor *ℤ cond v (d t.delta.site t.delta.object) (pos 0) ≡ cond v (t.factor *ℤ d t.delta.site t.delta.object) (pos 0)
    times true = refl
    times false = omega (arith, ints)

pub total_is : (bounds : List ℤ) → total bounds ≡ sum_from 0 (length bounds) (λ i. bound_at bounds i)
unfolding definitions meaning_definitions
total_is [] = refl
total_is (n ∷ ns) =
    ap (λ r. n +ℤ r) (total_is ns ∙ sym (sum_next 0 (length ns) (λ i. bound_at (n ∷ ns) i)))

pub clauses_hold :
    (k : ℕ) (b : ℕ → ℤ) (d : ℕ → Deltas) (cs : List Clause) (bounds : Config) → Fits k cs bounds →
    ((i : ℕ) → i < k → KeepsClauses i (d i) cs bounds) → Each (ClauseHolds (join k b d)) cs
unfolding definitions meaning_definitions
clauses_hold k b d [] [] f h = tt
clauses_hold k b d [] (n ∷ ns) f h = tt
clauses_hold k b d (c ∷ cs) [] f h = absurd f
clauses_hold k b d (c ∷ cs) (n ∷ ns) f h =
    let sums : sum_from 0 k (λ i. bound_at n i) ≡ c.slack = ap (λ m. sum_from 0 m (λ i. bound_at n i)) (sym f.0.count) ∙ sym (total_is n) ∙ f.0.sums in
    let below : sum_from 0 k (λ i. site_sum i c.terms (d i)) ≤ℤ sum_from 0 k (λ i. bound_at n i) = sum_le_below 0 k _ _ (λ m le lt. (h m (omega arith)).0) in
    (omega (arith, ints, terms_split k b d c.terms), clauses_hold k b d cs ns f.1 (λ i lt. (h i lt).1))

pub freezes_hold : (k : ℕ) (b : ℕ → ℤ) (d : ℕ → Deltas) (ds : List Delta) → ((i : ℕ) → i < k → KeepsFreezes i (d i) ds) → Each (IsZeroAt (join k b d)) ds
unfolding definitions meaning_definitions
freezes_hold k b d [] h = tt
freezes_hold k b d (e ∷ ds) h = (go (nat_lt e.site k) refl, freezes_hold k b d ds (λ i lt. (h i lt).1))
  where
    go : (v : Bool) → nat_lt e.site k ≡ v → cond v (d e.site e.object) (pos 0) ≡ pos 0
    go true q = let lt : e.site < k = grind (arith, nat_tests) in (h e.site lt).0 refl
    go false q = refl
