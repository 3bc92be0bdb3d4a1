-- The segments so far have no entries.
use Rattle.std.proofs.Common.{◌≡◌, [], map, replicate}
use Rattle.homeo_history.specs.HistoryView.{plain_segment}
use Rattle.homeo_core.proofs.prepared.empty_segments.Given as goal

abbrev pub invariant-loop : goal.invariant-loop
invariant-loop l = map plain_segment l.segments.items ≡ replicate l.counter []
