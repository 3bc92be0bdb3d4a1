-- What loops over the slots of a relation test and do at a slot.
use Rattle.std.specs.Prelude.{ℕ, pos, Bool, true}
use Rattle.homeo_syntax.specs.Source.{Expr, Cond, Commands}
use Rattle.homeo_meaning.specs.Context.{Slot, Context, bind}
use Rattle.homeo_meaning.specs.Meaning.{State, Run, done, value, holds, set_object, write_field, does_all}
use Rattle.homeo_eval.specs.inner.CanRun.{expr_fits, cond_fits, can_run_all}

-- the condition, with the row at the slot
abbrev pub holds_at : Context → ℕ → Cond → Slot → State → Bool
holds_at x row c slot s = holds (bind x row slot) c s

abbrev pub cond_fits_at : ℕ → Context → ℕ → Cond → Slot → State → Bool
cond_fits_at b x row c slot s = cond_fits b (bind x row slot) c s

-- commands
abbrev pub does_at : Context → ℕ → Commands → Slot → State → Run
does_at x row body slot s = does_all (bind x row slot) body s

abbrev pub can_run_at : ℕ → Context → ℕ → Commands → Slot → State → Bool
can_run_at b x row body slot s = can_run_all b (bind x row slot) body s

-- the slot is cleared
abbrev pub clears : Slot → State → Run
clears slot s = done (set_object s slot.used (pos 0))

abbrev pub can_clear : Slot → State → Bool
can_clear slot s = true

-- a field of the slot is written
abbrev pub writes_at : Context → ℕ → ℕ → Expr → Slot → State → Run
writes_at x row f e slot s = done (write_field s slot f (value (bind x row slot) e s))

abbrev pub value_fits_at : ℕ → Context → ℕ → Expr → Slot → State → Bool
value_fits_at b x row e slot s = expr_fits b (bind x row slot) e s
