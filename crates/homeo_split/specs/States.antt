-- The states that temporaries and split databases stand for, and runs.
use Rattle.std.specs.Prelude.{◌≡◌, ℤ, pos, List, [], map, slice_index_or}
use Rattle.homeo_syntax.specs.declared.low.Temp.{Temp}
use Rattle.homeo_syntax.specs.declared.low.Temp.TheVariants.{Named, Fresh}
use Rattle.homeo_syntax.specs.declared.low.SplitName.{SplitName}
use Rattle.homeo_meaning.specs.LowMeaning.{State, Run, TempAt, BaseAt, DeltaAt, location_of}
use Rattle.homeo_meaning.specs.Serial.{values_of}
use Rattle.homeo_meaning.specs.Windowed.{item_at}
use Rattle.homeo_split.specs.Key.{definitions}
use Rattle.homeo_split.specs.declared.split.Split.{Split}
use Rattle.homeo_split.specs.declared.temporaries.Temporaries.{Temporaries}

-- 0 where none was set
abbrev pub temps_of : Temporaries → Temp → ℤ
unfolding definitions
temps_of s (Named n) = item_at s.named n (pos 0)
temps_of s (Fresh n) = item_at s.fresh n (pos 0)

-- 0 wherever a list ends
abbrev pub state_with : List ℤ → List (List ℤ) → (Temp → ℤ) → State
state_with base deltas temps (TempAt t) = temps t
state_with base deltas temps (BaseAt x) = values_of base x
state_with base deltas temps (DeltaAt x j) = values_of (slice_index_or deltas j []) x

-- a split database with temporaries 0
abbrev pub state_of : Split → State
unfolding definitions
state_of s = state_with s.base.items (map (λ d. d.items) s.deltas.items) (λ t. pos 0)

-- two states have the same values at the base and the deltas
abbrev pub AgreeOnNames : State → State → Type 0
AgreeOnNames s u = (x : SplitName) → s (location_of x) ≡ u (location_of x)

-- a state and prints so far
abbrev pub run_of : State → List ℤ → Run
unfolding definitions
run_of s prints = record { state = s; prints = prints }
