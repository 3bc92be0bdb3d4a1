-- Values one after another.
use Rattle.std.proofs.Common.{◌≡◌, ℕ, zero, suc, ◌+◌, ◌≤◌, get_or, ℤ, pos, sym, ap, ◌∙◌, arith}
use Rattle.homeo_meaning.specs.Serial.{values_from}

-- the values from k on, where past n of them there is 0
pub values_are :
    (k n x : ℕ) (f : ℕ → ℤ) → ((y : ℕ) → n ≤ y → f (k + y) ≡ pos 0) → get_or (values_from k n f) x (pos 0) ≡ f (k + x)
values_are k zero x f h = sym (h x (omega arith))
values_are k (suc n) zero f h = let here : k ≡ k + 0 = omega arith in ap f here
values_are k (suc n) (suc x) f h =
    let next : (y : ℕ) → suc k + y ≡ k + suc y = λ y. omega arith in
    values_are (suc k) n x f (λ y le. ap f (next y) ∙ h (suc y) (omega arith)) ∙ ap f (next x)
