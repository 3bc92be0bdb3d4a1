use Rattle.std.proofs.Common.{◌≡◌, ◌+◌, length, take}
use Rattle.std.specs.List.{flat_map}
use Rattle.homeo_history.specs.HistoryView.{plain_segment}
use Rattle.homeo_report.specs.Summary.{prints_in}
use Rattle.homeo_report.proofs.sizes.with_segments.Given as goal

abbrev pub invariant-loop-segment : goal.invariant-loop-segment
invariant-loop-segment l = record {
  calls : l.all.calls ≡ l.fn.totals.calls + length (flat_map plain_segment (take l.segment-index l.segments));
  prints : l.all.prints ≡ l.fn.totals.prints + length (prints_in (flat_map plain_segment (take l.segment-index l.segments)));
}
