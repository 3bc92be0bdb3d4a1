use Rattle.std.proofs.Common.{◌≡◌, length, map, take}
use Rattle.homeo_history.specs.HistoryView.{plain_round}
use Rattle.homeo_history.specs.Legal.{calls_of}
use Rattle.homeo_report.specs.Summary.{prints_of}
use Rattle.homeo_report.proofs.sizes.totals_of.Given as goal

abbrev pub invariant-loop-round : goal.invariant-loop-round
invariant-loop-round l = record {
  calls : l.all.calls ≡ length (calls_of (map plain_round (take l.round-index l.rounds)));
  prints : l.all.prints ≡ length (prints_of (map plain_round (take l.round-index l.rounds)));
}
