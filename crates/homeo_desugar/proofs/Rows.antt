-- The rows in force.
use Rattle.std.proofs.Common.{◌≡◌, ℕ, ◌==◌, Bool, true, false, cond, List, [], length, sym, ap, ◌∙◌, subst, arith}
use Rattle.homeo_context.specs.declared.slots.Slot as code
use Rattle.homeo_context.specs.declared.context.Context as code_context
use Rattle.homeo_context.specs.declared.context.BoundRows.{Outside, Inside}
use Rattle.homeo_context.specs.declared.arguments.Argument.{Argument}
use Rattle.homeo_context.specs.Slots.{plain_slot}
use Rattle.homeo_context.specs.Contexts.{call_context, rows_of, plain_context}
use Rattle.homeo_context.proofs.Rows.{rows_inside, rows_outside}
use Rattle.homeo_meaning.specs.Key.{definitions as meaning_definitions}
use Rattle.homeo_meaning.specs.Context.{Slot, Context, bind, object_count}
use Rattle.homeo_meaning.specs.Declarations.{Declarations}
use Rattle.homeo_desugar.specs.SchemaFits.{SchemaFits}
use Rattle.homeo_desugar.specs.inner.Numbers.{IsLow, Fits}

-- ---- one more row
low_row : (b : Bool) (slot row : Slot) → IsLow slot → IsLow row → IsLow (cond b slot row)
low_row true slot row h k = h
low_row false slot row h k = k

bind_fits : (x : Context) (name : ℕ) (slot : Slot) → Fits x → IsLow slot → Fits (bind x name slot)
unfolding meaning_definitions
bind_fits x name slot h k = record { schema = h.schema; rows = λ n. low_row (name == n) slot (x.rows n) k (h.rows n) }

pub context_bound : (f g : code_context.Context) (name : ℕ) (slot : code.Slot) → g.declared.now ≡ f.declared.now → g.arguments.now ≡ f.arguments.now → g.rows.now ≡ Inside name slot f.rows → plain_context g ≡ bind (plain_context f) name (plain_slot slot)
unfolding meaning_definitions
context_bound f g name slot d a r = λ i. record {
  schema = (d i).schema;
  arguments = (call_context (d i) (a i)).arguments;
  rows = λ n. (ap (λ l. rows_of l n) r ∙ rows_inside name slot f.rows n) i;
}

pub bound_fits : (f g : code_context.Context) (name : ℕ) (slot : code.Slot) → g.declared.now ≡ f.declared.now → g.arguments.now ≡ f.arguments.now → g.rows.now ≡ Inside name slot f.rows → Fits (plain_context f) → IsLow (plain_slot slot) → Fits (plain_context g)
bound_fits f g name slot d a r h k = subst Fits (sym (context_bound f g name slot d a r)) (bind_fits (plain_context f) name (plain_slot slot) h k)

-- ---- no row
pub context_outside : (f : code_context.Context) (k : ℕ) (d : Declarations) (given : List Argument) → f.declared.now ≡ d → f.arguments.now ≡ given → f.rows.now ≡ Outside k → k ≡ object_count (length d.schema.objects) d.schema.relations → plain_context f ≡ call_context d given
unfolding meaning_definitions
context_outside f k d given n a r e = λ i. record {
  schema = (n i).schema;
  arguments = (call_context (n i) (a i)).arguments;
  rows = λ m. (ap (λ l. rows_of l m) r ∙ rows_outside k m ∙ ap (λ (m : ℕ). let slot : Slot = record { number = 0; used = m; fields = [] } in slot) e) i;
}

call_fits : (d : Declarations) (given : List Argument) → SchemaFits d.schema → Fits (call_context d given)
unfolding meaning_definitions
call_fits d given h = record { schema = h; rows = λ n. record { number = omega arith; objects = omega (arith, h) } }

pub outside_fits : (f : code_context.Context) (k : ℕ) (d : Declarations) (given : List Argument) → f.declared.now ≡ d → f.arguments.now ≡ given → f.rows.now ≡ Outside k → k ≡ object_count (length d.schema.objects) d.schema.relations → SchemaFits d.schema → Fits (plain_context f)
outside_fits f k d given n a r e h = subst Fits (sym (context_outside f k d given n a r e)) (call_fits d given h)
