-- Lists read with an absent item past their end.
use Rattle.std.proofs.Common.{◌≡◌, ℕ, zero, suc, ◌<◌, ◌==◌, cond, List, [], ◌∷◌, ◌++◌, length, get_or, set, refl, arith}
use Rattle.std.proofs.lemmas.Grind.{common_steps}
use Rattle.std.proofs.lemmas.Bool.Decides.{nat_tests}

pub padded_more : {X : Type 0} (xs : List X) (a : X) (m : ℕ) → get_or (xs ++ a ∷ []) m a ≡ get_or xs m a
padded_more [] a zero = refl
padded_more [] a (suc m) = refl
padded_more (x ∷ xs) a zero = refl
padded_more (x ∷ xs) a (suc m) = padded_more xs a m

pub padded_set : {X : Type 0} (xs : List X) (n : ℕ) (v a : X) (m : ℕ) → n < length xs → get_or (set xs n v) m a ≡ cond (n == m) v (get_or xs m a)
padded_set xs n v a m h = grind (arith, common_steps, nat_tests)
