-- The bound of one of equal shares.
use Rattle.std.proofs.Common.{◌≡◌, ℕ, zero, suc, ◌+◌, ◌-◌, ◌*◌, ◌/◌, ◌<◌, ◌≤◌, sum, take, ℤ, pos, refl, sym, ap, ap₂, ◌∙◌, arith}
use Rattle.std.specs.Prelude.{replicate}
use Rattle.std.proofs.lemmas.List.Sums.{sum_by-cons}
use Rattle.homeo_meaning.specs.Schema.{nat_of}
use Rattle.homeo_plan.specs.Config.{split}
use Rattle.homeo_plan.specs.Treaty.{bound_at}
use Rattle.homeo_plan.proofs.Shares.{ones, ones_count, ones_sum}
use Rattle.homeo_plan.proofs.Splits.{split_bounds}

ones_below : (k i : ℕ) → i ≤ k → sum (take i (ones k)) ≡ i
unfolding ones
ones_below k zero h = refl
ones_below zero (suc i) h = absurd (omega (arith, h))
ones_below (suc k) (suc i) h = omega (arith, sum_by-cons (λ x. x) 1 (take i (ones k)), ones_below k i (omega (arith, h)))

-- of k sites site i has what it gets with those below it, less what these get
pub even_bound_is :
    (k i amount given part : ℕ) (slack : ℤ) → i < k → amount ≡ nat_of slack → given ≡ amount * i / k → part ≡ amount * (i + 1) / k →
    pos (part - given) ≡ bound_at (split (replicate k 1) slack) i
unfolding ones
even_bound_is k i amount given part slack h is was now =
    let next : i + 1 ≡ suc i = omega arith in
    let all = ones_sum k in
    let up_to = ones_below k (suc i) h in
    let below = ones_below k i (omega (arith, h)) in
    ap₂ (λ m n. let z : ℤ = pos (m - n) in z)
    (now ∙ ap₂ (λ a j. a * j / k) is (next ∙ sym up_to) ∙ ap (λ n. nat_of slack * sum (take (suc i) (ones k)) / n) (sym all))
    (was ∙ ap₂ (λ a j. a * j / k) is (sym below) ∙ ap (λ n. nat_of slack * sum (take i (ones k)) / n) (sym all))
    ∙ sym (split_bounds (ones k) slack i (omega (arith, h, ones_count k)))
