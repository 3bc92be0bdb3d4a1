-- The slot of a row, by what is bound innermost.
use Rattle.std.proofs.Common.{◌≡◌, ℕ, ◌==◌, cond, [], Bor, rules}
use Rattle.homeo_context.specs.declared.slots.Slot as code
use Rattle.homeo_context.specs.declared.context.BoundRows.{BoundRows, Outside, Inside, the_lemmas}
use Rattle.homeo_context.specs.Contexts.{rows_of}
use Rattle.homeo_context.specs.Slots.{plain_slot}

pub rows_inside : (name : ℕ) (slot : code.Slot) (outer : Bor BoundRows) (n : ℕ) → rows_of (Inside name slot outer) n ≡ cond (name == n) (plain_slot slot) (rows_of outer.now n)
rows_inside name slot outer n = search (rules, the_lemmas)

pub rows_outside : (k n : ℕ) → rows_of (Outside k) n ≡ record { number = 0; used = k; fields = [] }
rows_outside k n = search (rules, the_lemmas)
