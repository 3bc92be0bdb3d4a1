-- Needs: the remote deltas on which the prints of a residual, and the deltas that it writes, depend. They are frozen at 0
-- through a round, so that a site can run the residual by itself (this project's rule).
use Rattle.std.specs.Prelude.{ℕ, ◌==◌, cond, List, [], ◌∷◌, ℤ}
use Rattle.homeo_syntax.specs.declared.low.SplitName.{SplitName}
use Rattle.homeo_syntax.specs.declared.low.SplitName.TheVariants as split
use Rattle.homeo_syntax.specs.Low.{Command, Commands, Assign, Write, Print, NoCommand, MoreCommand}
use Rattle.homeo_meaning.specs.LowMeaning.{TempAt, DeltaAt, location_of, put}
use Rattle.homeo_plan.specs.Key.{definitions}
use Rattle.homeo_plan.specs.declared.forms.Delta.{Delta}
use Rattle.homeo_plan.specs.Linear.{delta_of, add_delta, add_deltas, support, Forms, base_forms, form}

-- the deltas of other sites than i
abbrev pub remote : ℕ → List Delta → List Delta
unfolding definitions
remote i [] = []
remote i (d ∷ ds) = cond (d.site == i) (remote i ds) (d ∷ remote i ds)

-- what the forms need that stand at the end in the deltas written
abbrev pub written_needs : ℕ → Forms → List Delta → List Delta
unfolding definitions
written_needs i f [] = []
written_needs i f (d ∷ ds) = add_deltas (remote i (support (f (DeltaAt d.object d.site)))) (written_needs i f ds)

-- the deltas written, and one more
abbrev pub add_written : SplitName → List Delta → List Delta
unfolding definitions
add_written (split.Whole x) ds = ds
add_written (split.Base x) ds = ds
add_written (split.Delta x j) ds = add_delta (delta_of x j) ds

-- the needs of the commands from here on: f has the forms so far, ds the deltas written so far
abbrev pub needs_from : ℕ → Forms → List Delta → Commands → List Delta
unfolding definitions
needs_from i f ds NoCommand = written_needs i f ds
needs_from i f ds (MoreCommand (Assign t e) cs) = needs_from i (put f (TempAt t) (form f e)) ds cs
needs_from i f ds (MoreCommand (Write x e) cs) = needs_from i (put f (location_of x) (form f e)) (add_written x ds) cs
needs_from i f ds (MoreCommand (Print e) cs) = add_deltas (remote i (support (form f e))) (needs_from i f ds cs)
needs_from i f ds (MoreCommand _ cs) = needs_from i f ds cs

-- the needs of the residual of site i at a base
abbrev pub needs : ℕ → (ℕ → ℤ) → Commands → List Delta
unfolding definitions
needs i b cs = needs_from i (base_forms b) [] cs

-- ---- residuals
-- the name of a delta
abbrev pub IsDeltaName : SplitName → Type 0
unfolding definitions
IsDeltaName (split.Whole x) = ⊥
IsDeltaName (split.Base x) = ⊥
IsDeltaName (split.Delta x j) = Unit {0}

-- an assignment, a write of a delta or a print
abbrev pub IsStraightOne : Command → Type 0
unfolding definitions
IsStraightOne (Assign t e) = Unit {0}
IsStraightOne (Write x e) = IsDeltaName x
IsStraightOne (Print e) = Unit {0}
IsStraightOne _ = ⊥

-- such commands, one after another
abbrev pub IsStraight : Commands → Type 0
unfolding definitions
IsStraight NoCommand = Unit {0}
IsStraight (MoreCommand c cs) = IsStraightOne c × IsStraight cs
