-- Which deltas commands of sites can write, as the code finds it.
use Rattle.std.specs.Prelude.{◌≡◌, ◌<◌, ℕ, Bool, false, List, [], length, slice_index_or}
use Rattle.homeo_syntax.specs.Source as s
use Rattle.homeo_plan.specs.declared.forms.Delta.{Delta}
use Rattle.homeo_plan.specs.Planned.{sites_of, planned}
use Rattle.homeo_plan.specs.Shares.{is_written}

abbrev pub delta_at : ℕ → ℕ → Delta
delta_at i x = record { object = x; site = i }

-- for each site a row with an entry for each object: whether a ground call of the workload can write its delta there
pub record AreWritten (w : s.Workload) (rows : List (List Bool)) : Type 0 where
  pub count : length rows ≡ sites_of w
  pub tell : (i x : ℕ) → i < sites_of w → slice_index_or (slice_index_or rows i []) x false ≡ is_written (sites_of w) (planned w) (delta_at i x)
