-- What a start and a site keep.
use Rattle.std.specs.Prelude.{◌≡◌, ◌<◌, List, [], length, replicate, ℤ, pos}
use Rattle.homeo_syntax.specs.SourceView.{plain_workload}
use Rattle.homeo_meaning.specs.Acceptance.{IsAccepted}
use Rattle.homeo_meaning.specs.Bounds.{IsWithin}
use Rattle.homeo_meaning.specs.Schema.{schema_of}
use Rattle.homeo_plan.specs.Planned.{sites_of}
use Rattle.homeo_history.specs.HistoryView.{plain_segment}
use Rattle.homeo_history.specs.declared.history.Segment.{Segment}
use Rattle.homeo_site.specs.SiteState.{SiteState, SiteHolds}
use Rattle.homeo_site.specs.SiteView.{StartValue}

-- the deltas are 0, and the segment has no entries
pub record IsStart (v : StartValue) (x : List ℤ) (s : Segment) : Type 0 where
  pub accepted : IsAccepted (plain_workload v.work)
  pub site : v.number < sites_of (plain_workload v.work)
  pub within : IsWithin (schema_of (plain_workload v.work)) v.base
  pub deltas : x ≡ replicate (length v.base) (pos 0)
  pub entries : s.entries ≡ record { items = []; spare = 0 }

-- a site in its round, with these deltas and this segment
abbrev pub state_in : StartValue → List ℤ → Segment → SiteState
state_in v x s = record { number = v.number; round = v.round; base = v.base; deltas = x; segment = plain_segment s }

-- the workload is accepted, and the site holds what a site keeps
pub record IsSite (v : StartValue) (x : List ℤ) (s : Segment) : Type 0 where
  pub accepted : IsAccepted (plain_workload v.work)
  pub holds : SiteHolds (plain_workload v.work) (state_in v x s)
