-- What a site did with a call.
use Rattle.std.specs.Prelude.{◌≡◌, Option, Some, None}
use Rattle.homeo_syntax.specs.Source as s
use Rattle.homeo_meaning.specs.declared.call.CallId.{CallId}
use Rattle.homeo_plan.specs.declared.treaty.Broken.{Broken}
use Rattle.homeo_site.specs.SiteState.{SiteState, KeepsCall, step_prints, step_finding, after_local}
use Rattle.homeo_round.specs.Key.{definitions}
use Rattle.homeo_round.specs.declared.local.Tried.{Tried}
use Rattle.homeo_round.specs.declared.local.Tried.TheVariants.{Made, Refused}

-- it was made where it keeps the site's treaty, with the prints of its local step, and else refused with what fails first
abbrev pub IsTried : s.Workload → SiteState → CallId → Tried → Type 0
unfolding definitions
IsTried w x call (Made prints) = KeepsCall w x call × (prints.items ≡ step_prints w x call)
IsTried w x call (Refused broken) = step_finding w x call ≡ Some broken

abbrev pub after_try : s.Workload → SiteState → CallId → Tried → SiteState
unfolding definitions
after_try w x call (Made prints) = after_local w x call
after_try w x call (Refused broken) = x

-- the same where nobody asks for its prints: what fails first, or nothing where it was made
abbrev pub IsTriedUnasked : s.Workload → SiteState → CallId → Option Broken → Type 0
unfolding definitions
IsTriedUnasked w x call None = KeepsCall w x call
IsTriedUnasked w x call (Some broken) = step_finding w x call ≡ Some broken

abbrev pub after_unasked : s.Workload → SiteState → CallId → Option Broken → SiteState
unfolding definitions
after_unasked w x call None = after_local w x call
after_unasked w x call (Some broken) = x
