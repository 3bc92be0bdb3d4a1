-- What forms say of values in states, and what clauses, comparisons and own deltas are in two runs: the words of the lemmas
-- that other crates cite.
use Rattle.std.specs.Prelude.{◌≡◌, ◌⊎◌, ℕ, List, ℤ, pos, ◌+ℤ◌, ◌≤ℤ◌}
use Rattle.homeo_meaning.specs.LowMeaning.{Location, DeltaAt, State}
use Rattle.homeo_plan.specs.Key.{definitions}
use Rattle.homeo_plan.specs.declared.forms.Delta.{Delta}
use Rattle.homeo_plan.specs.Each.{Each, Member}
use Rattle.homeo_plan.specs.Linear.{delta_of, Linear, Forms, terms_value, form_value, IsZeroAt}
use Rattle.homeo_plan.specs.Template.{Clause}

-- a delta is the same in two states
abbrev pub Agrees : State → State → Delta → Type 0
unfolding definitions
Agrees s s' d = s (DeltaAt d.object d.site) ≡ s' (DeltaAt d.object d.site)

-- a number that is the value of a form where the mixed deltas are 0
abbrev pub Is : Linear → State → ℤ → Type 0
unfolding definitions
Is a s x = Each (IsZeroAt s) a.mixed → x ≡ form_value a s

-- two numbers that differ as the form does, where the mixed deltas are the same
abbrev pub Differ : Linear → State → State → ℤ → ℤ → Type 0
unfolding definitions
Differ a s s' x x' = Each (Agrees s s') a.mixed → x +ℤ form_value a s' ≡ x' +ℤ form_value a s

-- a number in each of two states, and what the form says of both
pub record Tracks (a : Linear) (s s' : State) (x x' : ℤ) : Type 0 where
  pub here : Is a s x
  pub there : Is a s' x'
  pub apart : Differ a s s' x x'

-- two states whose values the forms track, from two states at the start
abbrev pub TracksAll : Forms → State → State → State → State → Type 0
unfolding definitions
TracksAll f s s' u u' = (p : Location) → Tracks (f p) s s' (u p) (u' p)

-- an own delta of site i is the same in both, unless it was written
abbrev pub IsSameUnlessWritten : ℕ → State → State → List Delta → ℕ → Type 0
unfolding definitions
IsSameUnlessWritten i u u' ds x = (u (DeltaAt x i) ≡ u' (DeltaAt x i)) ⊎ Member (delta_of x i) ds

-- a form is at most 0 at the base
abbrev pub IsBelowAtBase : Linear → Type 0
IsBelowAtBase a = a.constant ≤ℤ pos 0

-- the sum of a clause in a state is at most its slack
abbrev pub ClauseHolds : State → Clause → Type 0
unfolding definitions
ClauseHolds s c = terms_value c.terms s ≤ℤ c.slack
