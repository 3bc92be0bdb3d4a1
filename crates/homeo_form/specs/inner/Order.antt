-- Where a delta stands among others that are in order.
use Rattle.std.specs.Prelude.{◌≡◌, ℕ, ◌≤◌, Bool, true, false, List, [], ◌∷◌, length, take, drop}
use Rattle.homeo_plan.specs.Each.{Each}
use Rattle.homeo_plan.specs.Linear.{AreInOrder, Linear, same_delta, delta_before, deltas_of}
use Rattle.homeo_plan.specs.declared.forms.Delta.{Delta}
use Rattle.homeo_form.specs.Key.{definitions}

-- the first of the deltas, if there is one, doesn't stand before d
abbrev pub BeginsBehind : Delta → List Delta → Type 0
unfolding definitions
BeginsBehind d [] = Unit {0}
BeginsBehind d (e ∷ es) = delta_before e d ≡ false

-- n of the deltas stand before d
pub record IsPlace (d : Delta) (ds : List Delta) (n : ℕ) : Type 0 where
  pub within : n ≤ length ds
  pub before : Each (λ e. delta_before e d ≡ true) (take n ds)
  pub behind : BeginsBehind d (drop n ds)

-- the terms and the mixed deltas of a form are in order
abbrev pub IsInOrder : Linear → Type 0
unfolding definitions
IsInOrder a = AreInOrder (deltas_of a.terms) × AreInOrder a.mixed

-- the first of the deltas is d
abbrev pub begins_with : Delta → List Delta → Bool
unfolding definitions
begins_with d [] = false
begins_with d (e ∷ es) = same_delta d e
