-- The segments so far are those of the first sites.
use Rattle.std.proofs.Common.{◌≡◌, map}
use Rattle.homeo_history.specs.HistoryView.{plain_segment}
use Rattle.homeo_core.specs.Joined.{segments_of}
use Rattle.homeo_cluster.specs.inner.Meets.{site_states}
use Rattle.homeo_cluster.proofs.finish.into_segments.Given as goal

abbrev pub invariant-loop-cell : goal.invariant-loop-cell
invariant-loop-cell g l = map plain_segment l.segments.items ≡ segments_of (site_states l.yielded)
