use Rattle.std.proofs.Common.{◌≡◌, ◌++◌, map, take}
use Rattle.std.specs.Prelude.{codes}
use Rattle.homeo_syntax.specs.SourceView.{plain_workload}
use Rattle.homeo_history.specs.HistoryView.{plain_entry}
use Rattle.homeo_print.specs.Names.{heading}
use Rattle.homeo_report.specs.Report.{entries_text}
use Rattle.homeo_report.proofs.rounds.push_segment.Given as goal

abbrev pub invariant-loop-entry : goal.invariant-loop-entry
invariant-loop-entry l =
    l.out.items ≡ l.fn.out.items ++ (heading (codes "site ") l.site ++ entries_text (plain_workload l.w) (map plain_entry (take l.entry-index l.entries)))
