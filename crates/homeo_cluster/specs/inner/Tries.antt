-- What an attempt of a pass's next call comes to.
use Rattle.std.specs.Prelude.{◌≡◌, Some}
use Rattle.homeo_syntax.specs.Source as s
use Rattle.homeo_history.specs.HistoryView.{plain_answer}
use Rattle.homeo_site.specs.SiteState.{after_local, step_finding}
use Rattle.homeo_cluster.specs.inner.Cells.{CellValue}
use Rattle.homeo_cluster.specs.Passes.{PassValue, IsReplied, next_call}
use Rattle.homeo_cluster.specs.declared.local.Tried.{Tried}
use Rattle.homeo_cluster.specs.declared.local.Tried.TheVariants.{Done, Breaks}

-- the site made it, with this answer, or it breaks this first of the site's treaty, and pass and site are as they were
abbrev pub IsTried : s.Workload → CellValue → CellValue → PassValue → PassValue → Tried → Type 0
IsTried w c c' p p' (Done a) =
    IsReplied w p p' (plain_answer a) × (c'.site.state ≡ after_local w c.site.state (next_call p))
IsTried w c c' p p' (Breaks broken) =
    (p' ≡ p) × (c'.site.state ≡ c.site.state) × (step_finding w c.site.state (next_call p) ≡ Some broken)
