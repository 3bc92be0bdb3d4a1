use Rattle.std.proofs.Common.{◌≡◌, ◌++◌, map, take}
use Rattle.homeo_syntax.specs.SourceView.{plain_workload}
use Rattle.homeo_history.specs.HistoryView.{plain_round}
use Rattle.homeo_report.specs.Report.{rounds_text}
use Rattle.homeo_report.proofs.rounds.push_rounds.Given as goal

abbrev pub invariant-loop-number : goal.invariant-loop-number
invariant-loop-number l = l.out.items ≡ l.fn.out.items ++ rounds_text (plain_workload l.w) (map plain_round (take l.number l.rounds))
