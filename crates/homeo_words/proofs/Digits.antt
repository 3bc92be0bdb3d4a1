-- Values grow with more digits.
use Rattle.std.proofs.Common.{◌≡◌, ◌≤◌, ℕ, ◌+◌, ◌-◌, ◌*◌, ◌<◌, List, [], ◌∷◌, length, get_or, drop, drop-cons, add-one, ap, sym, ◌∙◌, subst, arith}
use Rattle.homeo_syntax.specs.Lexemes.{value_after}

pub grows : (v : ℕ) (bs : List ℕ) → v ≤ value_after v bs
grows v [] = omega arith
grows v (b ∷ bs) =
    let more : v * 10 + (b - 48) ≤ value_after (v * 10 + (b - 48)) bs = grows (v * 10 + (b - 48)) bs in
    omega (arith, more)

-- what is read of the value with one digit more is no more than the value of all
pub read_so_far : (v i : ℕ) (s : List ℕ) (n : ℕ) → i < length s → value_after v (drop i s) ≡ n → v * 10 + (get_or s i 0 - 48) ≤ n
read_so_far v i s n within is =
    let next : drop i s ≡ get_or s i 0 ∷ drop (i + 1) s = rw (add-one, drop-cons s i 0) in
    let all : value_after (v * 10 + (get_or s i 0 - 48)) (drop (i + 1) s) ≡ n = sym (ap (value_after v) next) ∙ is in
    subst (λ m. v * 10 + (get_or s i 0 - 48) ≤ m) all (grows (v * 10 + (get_or s i 0 - 48)) (drop (i + 1) s))
