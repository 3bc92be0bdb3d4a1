-- Lists, and items at their places.
use Rattle.std.proofs.Common.{◌≡◌, ℕ, zero, suc, ◌<◌, List, [], ◌∷◌, length, get_or, refl, ap, arith}
use Rattle.std.proofs.Math.ListN.{set}
use Rattle.homeo_plan.specs.Key.{definitions as plan_definitions}
use Rattle.homeo_plan.specs.Each.{Each}

pub each_there : {X : Type 0} (P : X → Type 0) (xs : List X) (n : ℕ) (d : X) → n < length xs → Each P xs → P (get_or xs n d)
unfolding plan_definitions
each_there P [] n d lt h = absurd (omega arith)
each_there P (x ∷ xs) zero d lt h = h.0
each_there P (x ∷ xs) (suc n) d lt h = each_there P xs n d (omega arith) h.1

pub set_apart : {X : Type 0} (xs : List X) (n m : ℕ) (x d : X) → (m ≡ n → ⊥) → get_or (set xs n x) m d ≡ get_or xs m d
set_apart [] zero m x d apart = refl
set_apart [] (suc n) m x d apart = refl
set_apart (y ∷ xs) zero zero x d apart = absurd (apart refl)
set_apart (y ∷ xs) zero (suc m) x d apart = refl
set_apart (y ∷ xs) (suc n) zero x d apart = refl
set_apart (y ∷ xs) (suc n) (suc m) x d apart = set_apart xs n m x d (λ e. apart (ap suc e))
