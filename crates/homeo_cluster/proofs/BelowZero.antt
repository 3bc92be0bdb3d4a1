-- A number below 0 as two of 64 bits.
use Rattle.homeo_assembly.specs.Key.{definitions}
use Rattle.std.proofs.Common.{◌≡◌, ◌/◌, ℤ, pos, negsuc, ◌-ℤ◌, ◌+ℤ◌, ◌<ℤ◌, ℕ, ap, ◌∙◌, arith}
use Rattle.std.proofs.lemmas.Int.{ints}
use Rattle.homeo_assembly.specs.Written.{upper}

above : (k : ℕ) → pos 0 -ℤ (negsuc k +ℤ pos 1) ≡ pos k
above k = omega (arith, ints)

one_less : (q : ℕ) → (pos 0 -ℤ pos 1) -ℤ pos q ≡ negsuc q
one_less q = omega (arith, ints)

pub upper_below : (n m r : ℤ) → n <ℤ pos 0 → m ≡ pos 0 -ℤ (n +ℤ pos 1) → r ≡ upper m → (pos 0 -ℤ pos 1) -ℤ r ≡ upper n
unfolding definitions
upper_below (pos n) m r lt e q = absurd (omega (arith, ints, lt))
upper_below (negsuc k) m r lt e q =
    ap (λ z. (pos 0 -ℤ pos 1) -ℤ z) (q ∙ ap upper (e ∙ above k)) ∙ one_less (k / 18446744073709551616)
