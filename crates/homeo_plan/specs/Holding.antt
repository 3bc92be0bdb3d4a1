-- States on a base, and atoms that hold in them.
use Rattle.std.specs.Prelude.{◌≡◌, ℕ, ℤ, pos, ◌≤ℤ◌}
use Rattle.homeo_syntax.specs.declared.low.Temp.{Temp}
use Rattle.homeo_meaning.specs.LowMeaning.{TempAt, BaseAt, State, Run, DeltaAt}
use Rattle.homeo_plan.specs.Each.{Each}
use Rattle.homeo_plan.specs.declared.forms.Delta.{Delta}
use Rattle.homeo_plan.specs.Linear.{Linear, form_value, IsZeroAt}

-- a state on the base, with no temporaries
pub record IsOn (b : ℕ → ℤ) (s : State) : Type 0 where
  pub bases : (x : ℕ) → s (BaseAt x) ≡ b x
  pub temps : (t : Temp) → s (TempAt t) ≡ pos 0

-- the atom's mixed deltas are 0, and its form is at most 0
pub record AtomHolds (s : State) (a : Linear) : Type 0 where
  pub mixed : Each (IsZeroAt s) a.mixed
  pub below : form_value a s ≤ℤ pos 0

-- the delta is 0 in both states
pub record ZeroInBoth (s s' : State) (d : Delta) : Type 0 where
  pub here : IsZeroAt s d
  pub there : IsZeroAt s' d

-- the same prints, and the same deltas of site i
pub record SameOwn (i : ℕ) (r r' : Run) : Type 0 where
  pub prints : r.prints ≡ r'.prints
  pub own_deltas : (x : ℕ) → r.state (DeltaAt x i) ≡ r'.state (DeltaAt x i)
