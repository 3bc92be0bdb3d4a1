-- Where the parts of a split database are small, so are the sums from a base on, one site after another.
use Rattle.std.proofs.Common.{◌≡◌, ◌≢◌, ℕ, zero, suc, ◌+◌, ◌-◌, ◌*◌, ◌<◌, ◌≤◌, nat_lt, Bool, true, false, ℤ, ◌+ℤ◌, w64, length, refl, sym, ap, ◌∙◌, subst, arith}
use Rattle.std.specs.Int.RustNames.{unsigned_abs}
use Rattle.std.proofs.lemmas.Int.{ints, fits_signed_from_abs}
use Rattle.std.proofs.lemmas.Nat.{mul-le}
use Rattle.std.proofs.lemmas.Bool.Decides.{nat_tests}
use Rattle.homeo_lemmas.proofs.Integers.{abs_add}
use Rattle.homeo_meaning.specs.Key.{definitions as meaning_definitions}
use Rattle.homeo_meaning.specs.LowMeaning.{BaseAt, DeltaAt, State}
use Rattle.homeo_plan.specs.Key.{definitions}
use Rattle.homeo_plan.specs.Split.{sum_from, fold_state}
use Rattle.homeo_split.specs.CanExec.{run_limit}
use Rattle.homeo_split.specs.States.{state_of}
use Rattle.homeo_split.specs.declared.split.Split.{Split}
use Rattle.homeo_fold.specs.Folding.{folded_of, SumsFit}
use Rattle.homeo_delta.specs.SmallParts.{HasSmallParts}
use Rattle.homeo_delta.proofs.SmallSums.{abs_part, sum_small}

sum_split : (f : ℕ → ℤ) (j n l : ℕ) → sum_from j (n + l) f ≡ sum_from j n f +ℤ sum_from (j + n) l f
unfolding definitions
sum_split f j zero l =
    let none : 0 + l ≡ l = omega arith in
    let here : j ≡ j + 0 = omega arith in
    ap (λ m. sum_from j m f) none ∙ ap (λ m. sum_from m l f) here ∙ omega (arith, ints)
sum_split f j (suc n) l =
    let on : suc n + l ≡ suc (n + l) = omega arith in
    let here : suc j + n ≡ j + suc n = omega arith in
    ap (λ m. sum_from j m f) on ∙ omega (arith, ints, sum_split f (suc j) n l, ap (λ m. sum_from m l f) here)

module _ (k i a b : ℕ) (site : i < k) (s : State) (small : HasSmallParts k i a b s) (x : ℕ) where
  base_small : unsigned_abs (s (BaseAt x)) ≤ a
  unfolding meaning_definitions
  base_small = small.bases x

  fold_small : unsigned_abs (fold_state k s (BaseAt x)) ≤ b
  unfolding meaning_definitions
  fold_small = small.fold x

  other_small : (l : ℕ) → l < k → i ≢ l → unsigned_abs (s (DeltaAt x l)) ≤ a
  unfolding meaning_definitions
  other_small l lt apart = small.others x l lt apart

  -- the own delta isn't among them yet
  below_own : (n : ℕ) → n ≤ i → unsigned_abs (fold_state n s (BaseAt x)) ≤ b + k * a
  unfolding definitions
  below_own n le =
      let rest : unsigned_abs (sum_from 0 n (λ l. s (DeltaAt x l))) ≤ n * a =
      sum_small a (λ l. s (DeltaAt x l)) 0 n (λ l r t. other_small l (omega arith) (omega arith)) in
      let room : suc n * a ≤ k * a = mul-le (suc n) a k a (omega arith) (omega arith) in
      let more : suc n * a ≡ a + n * a = omega arith in
      omega (arith, base_small, abs_add (s (BaseAt x)) (sum_from 0 n (λ l. s (DeltaAt x l))))

  -- the fold lacks the deltas of some other sites
  past_own : (n l : ℕ) → i < n → n + l ≡ k → unsigned_abs (fold_state n s (BaseAt x)) ≤ b + k * a
  unfolding definitions
  past_own n l lt all =
      let rest : unsigned_abs (sum_from n l (λ m. s (DeltaAt x m))) ≤ l * a =
      sum_small a (λ m. s (DeltaAt x m)) n l (λ m r t. other_small m (omega arith) (omega arith)) in
      let room : l * a ≤ k * a = mul-le l a k a (omega arith) (omega arith) in
      let none : 0 + n ≡ n = omega arith in
      let split : sum_from 0 k (λ m. s (DeltaAt x m)) ≡ sum_from 0 n (λ m. s (DeltaAt x m)) +ℤ sum_from n l (λ m. s (DeltaAt x m)) =
      ap (λ m. sum_from 0 m (λ m. s (DeltaAt x m))) (sym all) ∙ sum_split (λ m. s (DeltaAt x m)) 0 n l
      ∙ ap (λ m. sum_from 0 n (λ m. s (DeltaAt x m)) +ℤ sum_from m l (λ m. s (DeltaAt x m))) none in
      let fold : fold_state k s (BaseAt x) ≡ fold_state n s (BaseAt x) +ℤ sum_from n l (λ m. s (DeltaAt x m)) = omega (arith, ints, split) in
      let part : unsigned_abs (fold_state n s (BaseAt x) +ℤ sum_from n l (λ m. s (DeltaAt x m))) ≤ b = subst (λ v. unsigned_abs v ≤ b) fold fold_small in
      omega (arith, abs_part (fold_state n s (BaseAt x)) (sum_from n l (λ m. s (DeltaAt x m))))

  sum_so_far : (n : ℕ) → n ≤ k → unsigned_abs (fold_state n s (BaseAt x)) ≤ b + k * a
  sum_so_far n le = go (nat_lt i n) refl
    where
      go : (v : Bool) → nat_lt i n ≡ v → unsigned_abs (fold_state n s (BaseAt x)) ≤ b + k * a
      go true e = past_own n (k - n) (grind (arith, nat_tests)) (omega arith)
      go false e = below_own n (grind (arith, nat_tests))

pub sums_law :
    (i a b : ℕ) (s : Split) → i < length s.deltas.items → b + length s.deltas.items * a ≤ run_limit →
    HasSmallParts (length s.deltas.items) i a b (state_of s) → SumsFit s
sums_law i a b s site within small n x le lt =
    let sum = sum_so_far (length s.deltas.items) i a b site (state_of s) small x n le in
    fits_signed_from_abs w64 (folded_of s n x) (omega (arith, sum))
