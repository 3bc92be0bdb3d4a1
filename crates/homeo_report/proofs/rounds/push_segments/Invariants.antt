use Rattle.std.proofs.Common.{◌≡◌, ◌++◌, map, take}
use Rattle.homeo_syntax.specs.SourceView.{plain_workload}
use Rattle.homeo_history.specs.HistoryView.{plain_segment}
use Rattle.homeo_report.specs.Report.{segments_text}
use Rattle.homeo_report.proofs.rounds.push_segments.Given as goal

abbrev pub invariant-loop-site : goal.invariant-loop-site
invariant-loop-site l =
    l.out.items ≡ l.fn.out.items ++ segments_text (plain_workload l.w) (map plain_segment (take l.site l.segments))
