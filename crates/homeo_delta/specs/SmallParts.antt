-- How large the parts of a split database are, where a site runs a command.
use Rattle.std.specs.Prelude.{◌≢◌, ℕ, ◌<◌}
use Rattle.homeo_meaning.specs.LowMeaning.{BaseAt, DeltaAt, State}
use Rattle.homeo_meaning.specs.Small.{IsSmall}
use Rattle.homeo_plan.specs.Split.{fold_state}

-- of the first k sites: each value of the fold is at most b in size, and each base and each delta of a site other than i at
-- most a
pub record HasSmallParts (k i a b : ℕ) (s : State) : Type 0 where
  pub fold : (x : ℕ) → IsSmall b (fold_state k s (BaseAt x))
  pub bases : (x : ℕ) → IsSmall a (s (BaseAt x))
  pub others : (x j : ℕ) → j < k → i ≢ j → IsSmall a (s (DeltaAt x j))
