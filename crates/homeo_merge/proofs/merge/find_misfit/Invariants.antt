use Rattle.std.proofs.Common.{◌≡◌, ℕ, ◌==◌, ◌<◌, length, map, count_by}
use Rattle.homeo_history.specs.HistoryView.{plain_segment}
use Rattle.homeo_history.specs.Merge.{segment_of}
use Rattle.homeo_merge.proofs.merge.find_misfit.Given as goal

abbrev pub invariant-loop-site : goal.invariant-loop-site
invariant-loop-site l =
    (i : ℕ) → i < l.site → count_by (λ j. i == j) l.choice ≡ length (segment_of (map plain_segment l.segments) i)
