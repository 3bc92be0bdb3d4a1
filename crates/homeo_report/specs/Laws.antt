-- The law of reports.
use Rattle.std.specs.Prelude.{◌≡◌}
use Rattle.homeo_syntax.specs.Source as s
use Rattle.homeo_meaning.specs.Acceptance.{IsAccepted}
use Rattle.homeo_history.specs.History.{History}
use Rattle.homeo_history.specs.Legal.{IsFull}
use Rattle.homeo_report.specs.Report.{report}

-- two full histories of an accepted workload that have one report are equal
abbrev pub OneReport : Type 0
OneReport =
    (w : s.Workload) (h g : History) → IsAccepted w → IsFull w h → IsFull w g → report w h ≡ report w g → h ≡ g
