-- The states and runs that the code's values stand for.
use Rattle.std.specs.Prelude.{◌≡◌, ◌≤◌, ℕ, ℤ, pos, Bool, true, List, length}
use Rattle.homeo_context.specs.declared.context.Context as code_context
use Rattle.homeo_context.specs.Contexts.{plain_context}
use Rattle.homeo_eval.specs.declared.state.State as code
use Rattle.homeo_meaning.specs.Key.{definitions}
use Rattle.homeo_meaning.specs.Bounds.{all_bounds}
use Rattle.homeo_meaning.specs.Context.{Spot}
use Rattle.homeo_meaning.specs.Meaning.{State, Run, is_within}
use Rattle.homeo_meaning.specs.Serial.{values_of}
use Rattle.homeo_meaning.specs.Windowed.{item_at}
use Rattle.homeo_lform.specs.RowsFit.{RowsFit}

abbrev pub state_of : code.State → State
unfolding definitions
state_of s = record { database = values_of s.database.items; temps = λ n. item_at s.temps n (pos 0) }

abbrev pub run_of : State → List ℤ → Bool → Run
unfolding definitions
run_of s prints ended = record { state = s; prints = prints; ended = ended }

-- a state has a value for each object, and the rows in force are slots, or past all objects
pub record Serves (x : code_context.Context) (s : code.State) : Type 0 where
  pub places : length s.database.items ≡ length (all_bounds x.declared.now.schema)
  pub rows : RowsFit (plain_context x)

-- past so many objects, nothing but 0 is admitted
abbrev pub IsZeroPast : ℕ → Spot → ℕ → Type 0
unfolding definitions
IsZeroPast count b n = count ≤ n → (v : ℤ) → is_within b v ≡ true → v ≡ pos 0
