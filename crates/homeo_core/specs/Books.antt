-- Closed rounds as they lie in memory.
use Rattle.std.specs.Prelude.{List, map, ℤ}
use Rattle.homeo_history.specs.HistoryView.{plain_round}
use Rattle.homeo_history.specs.declared.history.Round.{Round}
use Rattle.homeo_core.specs.Key.{definitions}
use Rattle.homeo_core.specs.Joined.{BookState}

abbrev pub book_of : List Round → List ℤ → BookState
unfolding definitions
book_of closed base = record { closed = map plain_round closed; base = base }
