-- That fresh temporaries rise.
use Rattle.std.specs.Prelude.{◌≡◌, ℕ, ◌<◌, ◌≤◌, Bool, true, false}
use Rattle.homeo_syntax.specs.declared.low.Temp.TheVariants as temp
use Rattle.homeo_meaning.specs.LowMeaning as M

-- how many fresh temporaries stand before those of commands, which can end their call or not: the flag, or none
abbrev pub flags : Bool → ℕ
flags true = 1
flags false = 0

-- from the state s to the state u, the fresh temporaries from f on and below n keep their values, and n is not above the
-- next number
pub record TakesFrom (f n next : ℕ) (s u : M.State) : Type 0 where
  pub grows : n ≤ next
  pub keeps : (m : ℕ) → f ≤ m → m < n → u (M.TempAt (temp.Fresh m)) ≡ s (M.TempAt (temp.Fresh m))
