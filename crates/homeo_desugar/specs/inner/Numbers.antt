-- What fits the numbers of an L form, of 32 bits.
use Rattle.std.specs.Prelude.{ℕ, ◌+◌, ◌^◌, ◌<◌, length}
use Rattle.homeo_meaning.specs.Context.{Slot, Context}
use Rattle.homeo_desugar.specs.SchemaFits.{SchemaFits}

-- the number of a slot, and those of its objects and one more
pub record IsLow (slot : Slot) : Type 0 where
  pub number : slot.number < 2 ^ 32
  pub objects : slot.used + 1 + length slot.fields < 2 ^ 32

-- the numbers of all objects, and those of the rows in force too
pub record Fits (x : Context) : Type 0 where
  pub schema : SchemaFits x.schema
  pub rows : (n : ℕ) → IsLow (x.rows n)
