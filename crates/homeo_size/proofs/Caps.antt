-- Numbers told up to a cap: telling first or last is the same.
use Rattle.std.proofs.Common.{◌≡◌, ℕ, zero, suc, ◌+◌, ◌*◌, ◌≤◌, max, min, Bool, true, false, refl, sym, ap, ◌∙◌, arith}
use Rattle.std.specs.Prelude.{nat_le}
use Rattle.std.proofs.Math.Nat.{min-eq_left, min-eq_right, mul_comm, mul-suc, mul-zero}
use Rattle.std.proofs.lemmas.Int.{clamps}
use Rattle.std.proofs.lemmas.Bool.Decides.{nat_tests}

module _ (c : ℕ) where
  pub cap_sum : (n m : ℕ) → min c (min c n + min c m) ≡ min c (n + m)
  cap_sum n m = omega (arith, clamps)

  pub cap_max : (n m : ℕ) → max (min c n) (min c m) ≡ min c (max n m)
  cap_max n m = omega (arith, clamps)

  pub cap_more : (k n : ℕ) → min c (k + min c n) ≡ min c (k + n)
  cap_more k n = omega (arith, clamps)

  pub cap_plus : (n k : ℕ) → min c (min c n + k) ≡ min c (n + k)
  cap_plus n k = omega (arith, clamps)

  grows : (m j : ℕ) → m ≤ m * suc j
  grows m j = let e : m * suc j ≡ m * j + m = mul-suc m j in omega arith

  cap_large : (m v : ℕ) → c ≤ m → min c (c * v) ≡ min c (m * v)
  cap_large m zero h = ap (min c) (mul-zero c ∙ sym (mul-zero m))
  cap_large m (suc j) h =
      let one : c ≤ c * suc j = grows c j in
      let two : m ≤ m * suc j = grows m j in
      let large : c ≤ m * suc j = omega arith in
      min-eq_left one ∙ sym (min-eq_left large)

  cap_factor : (m v : ℕ) → min c (min c m * v) ≡ min c (m * v)
  cap_factor m v = by_case (nat_le m c) refl
    where
      by_case : (b : Bool) → nat_le m c ≡ b → min c (min c m * v) ≡ min c (m * v)
      by_case true e =
          let h : m ≤ c = grind (arith, nat_tests) in
          ap (λ k. min c (k * v)) (min-eq_right h)
      by_case false e =
          let h : c ≤ m = grind (arith, nat_tests) in
          ap (λ k. min c (k * v)) (min-eq_left h) ∙ cap_large m v h

  pub cap_product : (m v : ℕ) → min c (min c m * min c v) ≡ min c (m * v)
  cap_product m v = cap_factor m (min c v) ∙ ap (min c) (mul_comm m (min c v)) ∙ cap_factor v m ∙ ap (min c) (mul_comm v m)

-- ---- numbers without a cap
pub max_zero : (n : ℕ) → max n 0 ≡ n
max_zero n = omega (arith, clamps)

pub zero_max : (n : ℕ) → max 0 n ≡ n
zero_max n = omega (arith, clamps)

pub plus_assoc : (a b c : ℕ) → (a + b) + c ≡ a + (b + c)
plus_assoc a b c = omega arith

pub max_assoc : (a b c : ℕ) → max (max a b) c ≡ max a (max b c)
max_assoc a b c = omega (arith, clamps)

pub max_same : (n : ℕ) → max n n ≡ n
max_same n = omega (arith, clamps)
