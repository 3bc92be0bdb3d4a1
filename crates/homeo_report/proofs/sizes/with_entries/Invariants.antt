use Rattle.std.proofs.Common.{◌≡◌, ◌+◌, length, map, take}
use Rattle.homeo_history.specs.HistoryView.{plain_entry}
use Rattle.homeo_report.specs.Summary.{prints_in}
use Rattle.homeo_report.proofs.sizes.with_entries.Given as goal

abbrev pub invariant-loop-entry : goal.invariant-loop-entry
invariant-loop-entry l = record {
  calls : l.all.calls ≡ l.fn.totals.calls + l.entry-index;
  prints : l.all.prints ≡ l.fn.totals.prints + length (prints_in (map plain_entry (take l.entry-index l.entries)));
}
