-- A text that reads as a workload, apart from offsets.
use Rattle.std.specs.Prelude.{ℕ, List}
use Rattle.homeo_syntax.specs.Source as s
use Rattle.homeo_syntax.specs.Reads.{Reads}
use Rattle.homeo_print_workload.specs.Offsets.{SameButOffsets}

-- The text reads as a workload that differs from this one in offsets at most.
pub record ReadsBack (out : List ℕ) (w : s.Workload) : Type 0 where
  pub read : s.Workload
  pub reads : Reads out read
  pub same : SameButOffsets read w
