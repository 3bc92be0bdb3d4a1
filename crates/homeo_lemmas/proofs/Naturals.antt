-- Natural numbers: their tests, sums and products.
use Rattle.std.proofs.Common.{◌≡◌, ℕ, suc, ◌+◌, ◌*◌, ◌<◌, ◌≤◌, true, ◌==◌, ◌⊎◌, inl, inr, ⊎_elim, arith}
use Rattle.std.proofs.lemmas.Bool.{cases_eq}
use Rattle.std.proofs.lemmas.Bool.Decides.{nat_tests}
use Rattle.std.proofs.lemmas.Nat.{mul-le}

pub nat_is : (m n : ℕ) → (m == n) ≡ true → m ≡ n
nat_is m n h = grind (arith, nat_tests)

pub nat_itself : (n : ℕ) → (n == n) ≡ true
nat_itself n = grind (arith, nat_tests)

pub nat_turned : (m n : ℕ) → (m == n) ≡ (n == m)
nat_turned m n = grind (arith, nat_tests)

pub later_or_same : (m n : ℕ) → m ≤ n → (m < n) ⊎ (n ≡ m)
later_or_same m n le = ⊎_elim (λ e. inr e) (λ other. let lt : m < n = omega (arith, other, le) in inl lt) (cases_eq n m)

pub plus_assoc : (a b c : ℕ) → a + (b + c) ≡ (a + b) + c
plus_assoc a b c = omega arith

pub suc_times : (a b : ℕ) → suc a * b ≡ b + a * b
suc_times a b = grind arith

pub product_positive : (m n : ℕ) → 1 ≤ m → 1 ≤ n → 1 ≤ m * n
product_positive m n p q = omega (arith, mul-le 1 1 m n p q)

pub factor_le : (a k : ℕ) → 1 ≤ k → a ≤ a * k
factor_le a k p = omega (arith, mul-le a 1 a k (omega arith) p)
