-- Shares as numbers of the code.
use Rattle.std.specs.Prelude.{◌≡◌, ℕ, Bool, ◌==◌, List, map, sum, ℤ, pos}
use Rattle.homeo_plan.specs.Shares.{or_even}

-- it says whether all of these natural numbers are 0
abbrev pub TellsNone : Bool → List ℤ → Type 0
TellsNone none shares = (qs : List ℕ) → shares ≡ map pos qs → none ≡ (sum qs == 0)

-- they are these natural numbers, or 1 for each of k sites
abbrev pub AreOrEven : ℕ → List ℤ → List ℤ → Type 0
AreOrEven k shares made = (qs : List ℕ) → shares ≡ map pos qs → made ≡ map pos (or_even k qs)
