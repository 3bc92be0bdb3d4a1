-- That weights bound a state.
use Rattle.std.specs.Prelude.{ℕ, ◌≤◌}
use Rattle.std.specs.Int.RustNames.{unsigned_abs}
use Rattle.homeo_meaning.specs.LowMeaning.{Location, State}

-- each place's value is at most its weight in size, and each weight is at least 1
pub record Covers (weights : Location → ℕ) (s : State) : Type 0 where
  pub size : (p : Location) → unsigned_abs (s p) ≤ weights p
  pub one : (p : Location) → 1 ≤ weights p
