-- The contexts that the code's values stand for.
use Rattle.std.specs.Prelude.{ℕ, ◌==◌, cond, List, [], map}
use Rattle.homeo_context.specs.declared.arguments.Argument.{Argument}
use Rattle.homeo_context.specs.declared.context.Context as code
use Rattle.homeo_context.specs.declared.context.BoundRows.{BoundRows, fold-BoundRows}
use Rattle.homeo_context.specs.declared.context.BoundRows.TheOpen.{BoundRows-F}
use Rattle.homeo_meaning.specs.Context.{Slot, Context, context}
use Rattle.homeo_meaning.specs.Declarations.{Declarations}
use Rattle.homeo_context.specs.Slots.{plain_slot}

-- the context of a call with these arguments
abbrev pub call_context : Declarations → List Argument → Context
call_context d arguments = context d.schema (map (λ a. a.name) arguments) (map (λ a. a.value) arguments)

abbrev pub rows_step : BoundRows-F (ℕ → Slot) → ℕ → Slot
rows_step (BoundRows-F.Outside objects) n = record { number = 0; used = objects; fields = [] }
rows_step (BoundRows-F.Inside name slot outer) n = cond (name == n) (plain_slot slot) (outer.now n)

-- the slot of each row variable: past all objects where none of the name is bound
abbrev pub rows_of : BoundRows → ℕ → Slot
rows_of = fold-BoundRows (ℕ → Slot) rows_step

abbrev pub plain_context : code.Context → Context
plain_context x =
    record { schema = x.declared.now.schema; arguments = (call_context x.declared.now x.arguments.now).arguments; rows = rows_of x.rows.now }
