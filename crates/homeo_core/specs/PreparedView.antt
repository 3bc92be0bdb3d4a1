-- What contracts see of a cleanup (this project's rule).
use Rattle.std.specs.Prelude.{ℕ, ℤ, Bool, List}
use Rattle.homeo_syntax.specs.declared.workload.Workload.{Workload}
use Rattle.homeo_history.specs.History.{Entry, Closing}

-- the round that ends, its base, the call that closes it, and the next base; of each site the segment that was taken, empty where
-- none was, and whether the site still waits for its start in the next round
pub record PreparedValue : Type 0 where
  pub work : Workload
  pub round : ℕ
  pub base : List ℤ
  pub closing : Closing
  pub next : List ℤ
  pub segments : List (List Entry)
  pub waiting : List Bool
