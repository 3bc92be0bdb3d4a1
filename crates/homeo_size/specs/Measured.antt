-- How large an L form is, each number told up to its cap.
use Rattle.std.specs.Prelude.{◌≡◌, ℕ, nat_le, min}
use Rattle.homeo_syntax.specs.Low as L
use Rattle.homeo_meaning.specs.LowSizes.{call_extent, rows}
use Rattle.homeo_meaning.specs.LowWeights.{first_weights, is_light}
use Rattle.homeo_meaning.specs.Schema.{Schema}
use Rattle.homeo_size.specs.declared.measures.Measure.{Measure}

-- the size, the depth and the rows, and whether each expression has a weight of at most 10^18
pub record IsMeasure (x : Schema) (sites : ℕ) (form : L.Command) (m : Measure) : Type 0 where
  pub size : m.size ≡ min 8000001 (call_extent sites form).size
  pub depth : m.depth ≡ min 8000001 (call_extent sites form).depth
  pub light : nat_le m.weight 1000000000000000000 ≡ is_light 1000000000000000000 form (first_weights x)
  pub rows : m.rows ≡ min 8000001 (rows form)
