-- What contracts see of a site that keeps nothing of what it ran.
use Rattle.std.specs.Prelude.{◌≡◌, List, [], ℤ, None, Some}
use Rattle.homeo_syntax.specs.Source as s
use Rattle.homeo_syntax.specs.declared.workload.Workload.{Workload}
use Rattle.homeo_meaning.specs.declared.call.CallId.{CallId}
use Rattle.homeo_site.specs.Key.{definitions}
use Rattle.homeo_site.specs.SiteState.{SiteState, step_prints, step_deltas, step_finding, begun}
use Rattle.homeo_site.specs.SiteView.{StartValue}
use Rattle.homeo_site.specs.declared.bare.Ran.{Ran}
use Rattle.homeo_site.specs.declared.bare.Ran.TheVariants.{Kept, Breaks}

-- its workload, and its state with no segment
pub record BareValue : Type 0 where
  pub work : Workload
  pub state : SiteState

abbrev pub bare_begun : StartValue → BareValue
bare_begun v = record { work = v.work; state = begun v.number v.round v.base }

-- the site after a call's local step, without the call
abbrev pub after_bare : s.Workload → SiteState → CallId → SiteState
unfolding definitions
after_bare w x call = record { number = x.number; round = x.round; base = x.base; deltas = step_deltas w x call; segment = [] }

-- the call keeps the treaty and prints what its local step prints, or breaks it with what fails first
abbrev pub IsRan : s.Workload → SiteState → CallId → Ran → Type 0
unfolding definitions
IsRan w x call (Kept prints) = (step_finding w x call ≡ None) × (prints.items ≡ step_prints w x call)
IsRan w x call (Breaks broken) = step_finding w x call ≡ Some broken

abbrev pub after_ran : s.Workload → SiteState → CallId → Ran → SiteState
unfolding definitions
after_ran w x call (Kept prints) = after_bare w x call
after_ran w x call (Breaks broken) = x
