-- The segments so far are those of the first sites.
use Rattle.std.proofs.Common.{◌≡◌, map}
use Rattle.homeo_history.specs.HistoryView.{plain_segment}
use Rattle.homeo_core.specs.Joined.{segments_of}
use Rattle.homeo_core.specs.SiteLists.{states}
use Rattle.homeo_core.proofs.rounds.into_segments.Given as goal

abbrev pub invariant-loop-site : goal.invariant-loop-site
invariant-loop-site l = map plain_segment l.segments.items ≡ segments_of (states l.yielded)
