-- What is known where there may be nothing.
use Rattle.std.proofs.Common.{◌≡◌, ℕ, zero, suc, ◌<◌, List, [], ◌∷◌, length, get_or, Option, Some, None, refl, arith}
use Rattle.std.specs.Prelude.{IsSome}

pub some_of : {X : Type 0} (o : Option X) → IsSome o → (x : X) × (o ≡ Some x)
some_of None h = absurd (cc)
some_of (Some x) h = (x, refl)

pub get_or_again : {X : Type 0} (xs : List X) (i : ℕ) (d : X) → i < length xs → get_or xs i d ≡ get_or xs i (get_or xs i d)
get_or_again [] i d lt = absurd (omega (arith, lt))
get_or_again (y ∷ xs) zero d lt = cc
get_or_again (y ∷ xs) (suc i) d lt = get_or_again xs i d (omega (arith, lt))
