-- Integers: their tests, sums and sizes.
use Rattle.std.proofs.Common.{◌≡◌, ◌+◌, ◌≤◌, ℤ, pos, negsuc, ◌+ℤ◌, ◌*ℤ◌, neg_ℤ, ◌≤ℤ◌, int_lt, int_le, unsigned_abs, Bool, true, false, cond, refl, arith}
use Rattle.std.proofs.lemmas.Int.{ints}
use Rattle.std.specs.Ordering.{int_eq}

pub int_is : (x y : ℤ) → int_eq x y ≡ true → x ≡ y
int_is x y e = grind (arith, ints)

pub int_is_not : (x y : ℤ) → int_eq x y ≡ false → x ≡ y → ⊥
int_is_not x y e h = grind (arith, ints)

pub int_itself : (x : ℤ) → int_eq x x ≡ true
int_itself x = grind (arith, ints)

pub int_same : (x y : ℤ) → x ≡ y → int_eq x y ≡ true
int_same x y e = grind (arith, ints)

pub int_is_zero : (x : ℤ) → int_eq x (pos 0) ≡ true → x ≡ pos 0
int_is_zero x e = int_is x (pos 0) e

pub at_most : (x y : ℤ) → int_le x y ≡ true → x ≤ℤ y
at_most x y e = omega (arith, ints, e)

pub not_at_most : (x y : ℤ) → int_le x y ≡ false → x ≤ℤ y → ⊥
not_at_most x y e h = omega (arith, ints, e)

pub not_less : (x y : ℤ) → int_lt x y ≡ false → y ≤ℤ x
not_less x y h = grind (arith, ints)

pub at_most_both : (x y z : ℤ) → x ≤ℤ y → y ≤ℤ z → x ≤ℤ z
at_most_both x y z h k = omega (arith, ints)

-- ---- sums and products
pub plus_turned : (x y : ℤ) → x +ℤ y ≡ y +ℤ x
plus_turned x y = omega (arith, ints)

pub plus_zero : (x : ℤ) → x +ℤ pos 0 ≡ x
plus_zero x = omega (arith, ints)

pub zero_plus : (x : ℤ) → pos 0 +ℤ x ≡ x
zero_plus x = omega (arith, ints)

pub is_plus_zero : (x : ℤ) → x ≡ x +ℤ pos 0
is_plus_zero x = omega (arith, ints)

pub is_zero_plus : (x : ℤ) → x ≡ pos 0 +ℤ x
is_zero_plus x = omega (arith, ints)

pub plus_cancel : (z x y : ℤ) → z +ℤ x ≡ z +ℤ y → x ≡ y
plus_cancel z x y h = omega (arith, ints, h)

pub minus_itself : (x : ℤ) → (negsuc 0 *ℤ x) +ℤ x ≡ pos 0
minus_itself x = omega (arith, ints)

pub times_zero : (x : ℤ) → x *ℤ pos 0 ≡ pos 0
times_zero x = omega (arith, ints)

pub abs_add : (a b : ℤ) → unsigned_abs (a +ℤ b) ≤ unsigned_abs a + unsigned_abs b
abs_add a b = grind (arith, ints)

pub abs_neg : (x : ℤ) → unsigned_abs (neg_ℤ x) ≡ unsigned_abs x
abs_neg x = grind (arith, ints)

pub cond_zero : (t : Bool) → cond t (pos 0) (pos 0) ≡ pos 0
cond_zero true = refl
cond_zero false = refl
