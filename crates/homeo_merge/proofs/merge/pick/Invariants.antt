use Rattle.std.proofs.Common.{◌≡◌, ℕ, ◌==◌, ◌<◌, length, map, take, get_or, count_by}
use Rattle.homeo_history.specs.HistoryView.{plain_segment}
use Rattle.homeo_history.specs.Merge.{interleave}
use Rattle.homeo_merge.proofs.merge.pick.Given as goal

abbrev pub invariant-loop-site : goal.invariant-loop-site
invariant-loop-site l = record {
  sites : length l.taken.items ≡ length l.segments;
  taken : (i : ℕ) → i < length l.segments → get_or l.taken.items i 0 ≡ count_by (λ j. i == j) (take l.site-index l.choice);
  calls : l.calls.items ≡ interleave (map plain_segment l.segments) (take l.site-index l.choice);
}
