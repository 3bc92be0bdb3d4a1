-- What one more number in a choice picks.
use Rattle.std.specs.Prelude.{ℕ, List, map, take, drop}
use Rattle.homeo_meaning.specs.declared.call.CallId.{CallId}
use Rattle.homeo_history.specs.Key.{definitions}
use Rattle.homeo_history.specs.History.{Entry}
use Rattle.homeo_history.specs.Merge.{segment_of}

-- the call of a site's entry at a place, if there is one
abbrev pub calls_at : List (List Entry) → ℕ → ℕ → List CallId
unfolding definitions
calls_at segments site place = map (λ e. e.call) (take 1 (drop place (segment_of segments site)))
