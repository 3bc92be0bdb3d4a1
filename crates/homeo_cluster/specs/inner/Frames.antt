-- What the shared part of a cluster keeps.
use Rattle.std.specs.Prelude.{◌≡◌, ℕ, List}
use Rattle.homeo_syntax.specs.Source as s
use Rattle.homeo_syntax.specs.SourceView.{plain_workload}
use Rattle.homeo_syntax.specs.declared.workload.Workload.{Workload}
use Rattle.homeo_cluster.specs.Places.{AreLines}

-- its workload is the named one, and its lines are those of that workload
pub record IsFrame (w : s.Workload) (work : Workload) (dones ats : List ℕ) : Type 0 where
  pub named : plain_workload work ≡ w
  pub placed : AreLines w dones ats
