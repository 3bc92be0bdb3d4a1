-- What contracts see of a site, and of its start.
use Rattle.std.specs.Prelude.{ℕ, List, [], ℤ}
use Rattle.homeo_syntax.specs.declared.workload.Workload.{Workload}
use Rattle.homeo_site.specs.SiteState.{SiteState}

-- the start of a site in a round: its workload, the numbers of the site and of the round, and the round's base
pub record StartValue : Type 0 where
  pub work : Workload
  pub number : ℕ
  pub round : ℕ
  pub base : List ℤ

-- a site with these deltas in a round, of whose entries nothing is said
abbrev pub with_deltas : StartValue → List ℤ → SiteState
with_deltas v x = record { number = v.number; round = v.round; base = v.base; deltas = x; segment = [] }

-- a site: its workload, its state, and the number of entries for which its segment has room
pub record SiteValue : Type 0 where
  pub work : Workload
  pub state : SiteState
  pub spare : ℕ
