-- One more row in force.
use Rattle.std.proofs.Common.{◌≡◌, ℕ, List, [], length, ap, ◌∙◌}
use Rattle.homeo_context.specs.declared.slots.Slot as code
use Rattle.homeo_context.specs.declared.context.Context as code_context
use Rattle.homeo_context.specs.declared.context.BoundRows.{Outside, Inside}
use Rattle.homeo_context.specs.declared.arguments.Argument.{Argument}
use Rattle.homeo_meaning.specs.Key.{definitions}
use Rattle.homeo_meaning.specs.Bounds.{all_bounds}
use Rattle.homeo_meaning.specs.Context.{Slot, bind}
use Rattle.homeo_meaning.specs.Declarations.{Declarations}
use Rattle.homeo_lform.specs.RowsFit.{RowsFit}
use Rattle.homeo_context.specs.Slots.{plain_slot}
use Rattle.homeo_context.specs.Contexts.{call_context, rows_of, plain_context}
use Rattle.homeo_context.proofs.Rows.{rows_inside, rows_outside}
use Rattle.homeo_lform.proofs.ObjectBounds.{bounds_count, no_row_fits}

pub context_bound : (f g : code_context.Context) (name : ℕ) (slot : code.Slot) → g.declared.now ≡ f.declared.now → g.arguments.now ≡ f.arguments.now → g.rows.now ≡ Inside name slot f.rows → plain_context g ≡ bind (plain_context f) name (plain_slot slot)
unfolding definitions
context_bound f g name slot d a r = λ i. record {
  schema = (d i).schema;
  arguments = (call_context (d i) (a i)).arguments;
  rows = λ n. (ap (λ l. rows_of l n) r ∙ rows_inside name slot f.rows n) i;
}

-- no row in force
pub context_outside : (f : code_context.Context) (k : ℕ) (d : Declarations) (given : List Argument) → f.declared.now ≡ d → f.arguments.now ≡ given → f.rows.now ≡ Outside k → k ≡ length (all_bounds d.schema) → plain_context f ≡ call_context d given
unfolding definitions
context_outside f k d given n a r e = λ i. record {
  schema = (n i).schema;
  arguments = (call_context (n i) (a i)).arguments;
  rows = λ m. (ap (λ l. rows_of l m) r ∙ rows_outside k m ∙ ap (λ (m : ℕ). let slot : Slot = record { number = 0; used = m; fields = [] } in slot) (e ∙ bounds_count d.schema)) i;
}

pub call_rows_fit : (d : Declarations) (given : List Argument) → RowsFit (call_context d given)
unfolding definitions
call_rows_fit d given = λ r f. no_row_fits d.schema f
