-- The numbers that a site computes to read and to write an object are small where the parts are.
use Rattle.std.proofs.Common.{◌≡◌, ◌≢◌, ℕ, zero, suc, ◌+◌, ◌*◌, ◌<◌, ◌≤◌, ◌==◌, Bool, true, false, cond, ℤ, pos, ◌+ℤ◌, neg_ℤ, refl, sym, subst, arith}
use Rattle.std.specs.Int.RustNames.{unsigned_abs}
use Rattle.std.proofs.lemmas.Int.{ints}
use Rattle.std.proofs.lemmas.Nat.{mul-le}
use Rattle.std.proofs.lemmas.Bool.Decides.{nat_tests}
use Rattle.homeo_lemmas.proofs.Bools.{both}
use Rattle.homeo_lemmas.proofs.Integers.{abs_neg, abs_add}
use Rattle.homeo_syntax.specs.declared.low.SplitName.TheVariants.{Whole, Base, Delta}
use Rattle.homeo_syntax.specs.Low.{Expr, Exprs, Read, Sum, Neg, MoreExpr}
use Rattle.homeo_meaning.specs.Key.{definitions as meaning_definitions}
use Rattle.homeo_meaning.specs.LowMeaning.{BaseAt, DeltaAt, State, value}
use Rattle.homeo_meaning.specs.Small.{is_small}
use Rattle.homeo_plan.specs.Key.{definitions}
use Rattle.homeo_plan.specs.Split.{sum_from, delta_reads, other_deltas, shift_read}
use Rattle.homeo_split.specs.Key.{definitions as split_definitions}
use Rattle.homeo_split.specs.CanExec.{run_limit, expr_fits, sum_fits}
use Rattle.homeo_delta.specs.SmallParts.{HasSmallParts}
use Rattle.homeo_delta.proofs.SmallSums.{abs_part, sum_small}

-- a part of a sum is as large as the sum and the other parts
abs_middle : (x y z : ℤ) → unsigned_abs y ≤ unsigned_abs (x +ℤ (y +ℤ z)) + (unsigned_abs x + unsigned_abs z)
abs_middle x y z = grind (arith, ints)

module _ (k i a b : ℕ) (site : i < k) (within : b + k * a ≤ run_limit) where
  pub fits : (v : ℤ) → unsigned_abs v ≤ b + k * a → is_small run_limit v ≡ true
  unfolding meaning_definitions
  fits v h =
      let small : unsigned_abs v ≤ run_limit = omega arith in
      grind (arith, nat_tests, small)

  parts_fit : a ≤ k * a
  parts_fit = omega (arith, mul-le 1 a k a (omega arith) (omega arith))

  module _ (s : State) (h : HasSmallParts k i a b s) (x : ℕ) where
    base_small : unsigned_abs (s (BaseAt x)) ≤ a
    unfolding meaning_definitions
    base_small = h.bases x

    total_small : unsigned_abs (s (BaseAt x) +ℤ sum_from 0 k (λ l. s (DeltaAt x l))) ≤ b
    unfolding definitions meaning_definitions
    total_small = h.fold x

    other_small : (l : ℕ) → l < k → i ≢ l → unsigned_abs (s (DeltaAt x l)) ≤ a
    unfolding meaning_definitions
    other_small l lt apart = h.others x l lt apart

    -- ---- a read
    one_read :
        (j : ℕ) (p : ℤ) (es : Exprs) → unsigned_abs p ≤ b + k * a → unsigned_abs (s (DeltaAt x j)) ≤ b + k * a →
        sum_fits run_limit (p +ℤ s (DeltaAt x j)) es s ≡ true → sum_fits run_limit p (MoreExpr (Read (Delta x j)) es) s ≡ true
    unfolding definitions meaning_definitions split_definitions
    one_read j p es sum delta rest = both (fits p sum) (both (fits (s (DeltaAt x j)) delta) rest)

    -- the sum so far has the own delta, and those from site j on are still to be added
    reads_past_own :
        (n j : ℕ) (p : ℤ) → i < j → j + n ≤ k → unsigned_abs (p +ℤ sum_from j n (λ l. s (DeltaAt x l))) ≤ b →
        sum_fits run_limit p (delta_reads x j n) s ≡ true
    unfolding definitions meaning_definitions split_definitions
    reads_past_own zero j p past le total =
        let same : p +ℤ pos 0 ≡ p = omega (arith, ints) in
        let here : unsigned_abs p ≤ b = subst (λ v. unsigned_abs v ≤ b) same total in
        fits p (omega arith)
    reads_past_own (suc n) j p past le total =
        let rest : ℤ = sum_from (suc j) n (λ l. s (DeltaAt x l)) in
        let rest_small : unsigned_abs (s (DeltaAt x j) +ℤ rest) ≤ suc n * a =
        sum_small a (λ l. s (DeltaAt x l)) j (suc n) (λ l r t. other_small l (omega arith) (omega arith)) in
        let room : suc n * a ≤ k * a = mul-le (suc n) a k a (omega arith) (omega arith) in
        let sum : unsigned_abs p ≤ b + k * a = omega (arith, abs_part p (s (DeltaAt x j) +ℤ rest)) in
        let delta : unsigned_abs (s (DeltaAt x j)) ≤ a = other_small j (omega arith) (omega arith) in
        let next : p +ℤ (s (DeltaAt x j) +ℤ rest) ≡ (p +ℤ s (DeltaAt x j)) +ℤ rest = omega (arith, ints) in
        one_read j p (delta_reads x (suc j) n) sum (omega (arith, parts_fit))
        (reads_past_own n (suc j) (p +ℤ s (DeltaAt x j)) (omega arith) (omega arith) (subst (λ v. unsigned_abs v ≤ b) next total))

    -- it doesn't have the own delta yet
    reads_up_to_own :
        (n j q : ℕ) (p : ℤ) → j ≤ i → i < j + n → j + n ≤ k → unsigned_abs p ≤ q → q + n * a ≤ a + k * a →
        unsigned_abs (p +ℤ sum_from j n (λ l. s (DeltaAt x l))) ≤ b → sum_fits run_limit p (delta_reads x j n) s ≡ true
    unfolding definitions meaning_definitions split_definitions
    reads_up_to_own zero j q p up lt le small room total = absurd (never up lt)
      where
        never : j ≤ i → i < j + 0 → ⊥
        never r t = omega (arith, r, t)
    reads_up_to_own (suc n) j q p up lt le small room total =
        go (i == j) refl
        (λ more next. reads_up_to_own n (suc j) (q + a) (p +ℤ s (DeltaAt x j)) more (omega (arith, lt)) (omega (arith, le)) next (omega (arith, room)) next_total)
      where
        next_total : unsigned_abs ((p +ℤ s (DeltaAt x j)) +ℤ sum_from (suc j) n (λ l. s (DeltaAt x l))) ≤ b
        next_total =
            let next : p +ℤ (s (DeltaAt x j) +ℤ sum_from (suc j) n (λ l. s (DeltaAt x l))) ≡ (p +ℤ s (DeltaAt x j)) +ℤ sum_from (suc j) n (λ l. s (DeltaAt x l)) =
            omega (arith, ints) in
            subst (λ v. unsigned_abs v ≤ b) next total

        sum : unsigned_abs p ≤ b + k * a
        sum = omega (arith, small, room)

        go :
            (v : Bool) → (i == j) ≡ v →
            (suc j ≤ i → unsigned_abs (p +ℤ s (DeltaAt x j)) ≤ q + a → sum_fits run_limit (p +ℤ s (DeltaAt x j)) (delta_reads x (suc j) n) s ≡ true) →
            sum_fits run_limit p (delta_reads x j (suc n)) s ≡ true
        go true e ih =
            let same : i ≡ j = grind (arith, nat_tests) in
            let rest_small : unsigned_abs (sum_from (suc j) n (λ l. s (DeltaAt x l))) ≤ n * a =
            sum_small a (λ l. s (DeltaAt x l)) (suc j) n (λ l r t. other_small l (omega (arith, le)) (omega arith)) in
            let own : unsigned_abs (s (DeltaAt x j)) ≤ b + k * a =
            omega (arith, total, small, room, abs_middle p (s (DeltaAt x j)) (sum_from (suc j) n (λ l. s (DeltaAt x l)))) in
            one_read j p (delta_reads x (suc j) n) sum own
            (reads_past_own n (suc j) (p +ℤ s (DeltaAt x j)) (omega arith) (omega (arith, le)) next_total)
        go false e ih =
            let before : suc j ≤ i = grind (arith, nat_tests, up, e) in
            let other : unsigned_abs (s (DeltaAt x j)) ≤ a = other_small j (omega (arith, le)) (omega arith) in
            one_read j p (delta_reads x (suc j) n) sum (omega (arith, parts_fit))
            (ih before (omega (arith, small, abs_add p (s (DeltaAt x j)))))

    pub read_fits : expr_fits run_limit (shift_read k (Whole x)) s ≡ true
    unfolding definitions meaning_definitions split_definitions
    read_fits =
        let none : pos 0 +ℤ s (BaseAt x) ≡ s (BaseAt x) = omega (arith, ints) in
        let start : unsigned_abs (pos 0 +ℤ s (BaseAt x)) ≤ a = subst (λ v. unsigned_abs v ≤ a) (sym none) base_small in
        let total : unsigned_abs ((pos 0 +ℤ s (BaseAt x)) +ℤ sum_from 0 k (λ l. s (DeltaAt x l))) ≤ b =
        subst (λ v. unsigned_abs (v +ℤ sum_from 0 k (λ l. s (DeltaAt x l))) ≤ b) (sym none) total_small in
        both (fits (pos 0) (omega arith))
        (both (fits (s (BaseAt x)) (omega (arith, base_small, parts_fit)))
        (reads_up_to_own k 0 a (pos 0 +ℤ s (BaseAt x)) (omega arith) (omega arith) (omega arith) start (omega arith) total))

    -- ---- a write
    one_taken :
        (j q : ℕ) (p : ℤ) (es : Exprs) → j < k → i ≢ j → unsigned_abs p ≤ q → q ≤ b + k * a →
        (unsigned_abs (p +ℤ neg_ℤ (s (DeltaAt x j))) ≤ q + a → sum_fits run_limit (p +ℤ neg_ℤ (s (DeltaAt x j))) es s ≡ true) →
        sum_fits run_limit p (MoreExpr (Neg (Read (Delta x j))) es) s ≡ true
    unfolding definitions meaning_definitions split_definitions
    one_taken j q p es lt apart small room rest =
        let delta : unsigned_abs (s (DeltaAt x j)) ≤ a = other_small j lt apart in
        let size : unsigned_abs (neg_ℤ (s (DeltaAt x j))) ≡ unsigned_abs (s (DeltaAt x j)) = abs_neg (s (DeltaAt x j)) in
        both (fits p (omega arith))
        (both (both (fits (s (DeltaAt x j)) (omega (arith, parts_fit))) (fits (neg_ℤ (s (DeltaAt x j))) (omega (arith, parts_fit))))
        (rest (omega (arith, abs_add p (neg_ℤ (s (DeltaAt x j)))))))

    -- the place of the own delta is past, and the deltas from site j on are still to be taken off
    taken_past_own :
        (n j q : ℕ) (p : ℤ) → i < j → j + n ≤ k → unsigned_abs p ≤ q → q + n * a ≤ b + k * a →
        sum_fits run_limit p (other_deltas i x j n) s ≡ true
    unfolding definitions meaning_definitions split_definitions
    taken_past_own zero j q p past le small room = fits p (omega (arith, small, room))
    taken_past_own (suc n) j q p past le small room =
        let other : (i == j) ≡ false = grind (arith, nat_tests, past) in
        let rest : Exprs = other_deltas i x (suc j) n in
        subst (λ (v : Bool). sum_fits run_limit p (cond v rest (MoreExpr (Neg (Read (Delta x j))) rest)) s ≡ true) (sym other)
        (one_taken j q p rest (omega (arith, le)) (omega (arith, past)) small (omega (arith, room))
        (λ next. taken_past_own n (suc j) (q + a) (p +ℤ neg_ℤ (s (DeltaAt x j))) (omega (arith, past)) (omega (arith, le)) next (omega (arith, room))))

    -- it isn't reached yet
    taken_up_to_own :
        (n j q : ℕ) (p : ℤ) → j ≤ i → i < j + n → j + n ≤ k → unsigned_abs p ≤ q → q + n * a ≤ (b + a) + k * a →
        sum_fits run_limit p (other_deltas i x j n) s ≡ true
    unfolding definitions meaning_definitions split_definitions
    taken_up_to_own zero j q p up lt le small room = absurd (never up lt)
      where
        never : j ≤ i → i < j + 0 → ⊥
        never r t = omega (arith, r, t)
    taken_up_to_own (suc n) j q p up lt le small room =
        go (i == j) refl
        (λ more next. taken_up_to_own n (suc j) (q + a) (p +ℤ neg_ℤ (s (DeltaAt x j))) more (omega (arith, lt)) (omega (arith, le)) next (omega (arith, room)))
      where
        rest : Exprs
        rest = other_deltas i x (suc j) n

        go :
            (v : Bool) → (i == j) ≡ v →
            (suc j ≤ i → unsigned_abs (p +ℤ neg_ℤ (s (DeltaAt x j))) ≤ q + a →
            sum_fits run_limit (p +ℤ neg_ℤ (s (DeltaAt x j))) (other_deltas i x (suc j) n) s ≡ true) →
            sum_fits run_limit p (cond v (other_deltas i x (suc j) n) (MoreExpr (Neg (Read (Delta x j))) (other_deltas i x (suc j) n))) s ≡ true
        go true e ih =
            let same : i ≡ j = grind (arith, nat_tests) in
            taken_past_own n (suc j) q p (omega arith) (omega (arith, le)) small (omega (arith, room))
        go false e ih =
            let before : suc j ≤ i = grind (arith, nat_tests, up, e) in
            one_taken j q p (other_deltas i x (suc j) n) (omega (arith, le)) (omega arith) small (omega (arith, room)) (ih before)

    pub write_fits :
        (e : Expr) → expr_fits run_limit e s ≡ true → unsigned_abs (value e s) ≤ b →
        expr_fits run_limit (Sum (MoreExpr e (MoreExpr (Neg (Read (Base x))) (other_deltas i x 0 k)))) s ≡ true
    unfolding definitions meaning_definitions split_definitions
    write_fits e fit small =
        let base : unsigned_abs (s (BaseAt x)) ≤ a = base_small in
        let size : unsigned_abs (neg_ℤ (s (BaseAt x))) ≡ unsigned_abs (s (BaseAt x)) = abs_neg (s (BaseAt x)) in
        let none : pos 0 +ℤ value e s ≡ value e s = omega (arith, ints) in
        let first : unsigned_abs (pos 0 +ℤ value e s) ≤ b = subst (λ v. unsigned_abs v ≤ b) (sym none) small in
        both (fits (pos 0) (omega arith))
        (both fit
        (both (fits (pos 0 +ℤ value e s) (omega arith))
        (both (both (fits (s (BaseAt x)) (omega (arith, parts_fit))) (fits (neg_ℤ (s (BaseAt x))) (omega (arith, parts_fit))))
        (taken_up_to_own k 0 (b + a) ((pos 0 +ℤ value e s) +ℤ neg_ℤ (s (BaseAt x))) (omega arith) (omega arith) (omega arith)
        (omega (arith, abs_add (pos 0 +ℤ value e s) (neg_ℤ (s (BaseAt x))))) (omega arith)))))
