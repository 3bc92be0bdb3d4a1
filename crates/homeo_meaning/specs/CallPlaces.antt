-- The place of each call among the distinct ground calls.
use Rattle.std.specs.Prelude.{ℕ, List, map}
use Rattle.std.specs.List.{position_or_len}
use Rattle.homeo_syntax.specs.Source as s
use Rattle.homeo_meaning.specs.Key.{definitions}
use Rattle.homeo_meaning.specs.GlobalNames.{SitedCall, sited_calls_of}
use Rattle.homeo_meaning.specs.NumberRules.{same_ground, ground_calls}

-- where the first of these calls stands that is the same ground call
abbrev pub place_among : List SitedCall → SitedCall → ℕ
unfolding definitions
place_among calls c = position_or_len (same_ground c) calls

-- of each client's calls, in the order of the text
abbrev pub places_among : List SitedCall → List s.Client → List (List ℕ)
unfolding definitions
places_among calls clients = map (λ client. map (place_among calls) (sited_calls_of client)) clients

-- by client, the place of each of its calls among the ground calls
abbrev pub call_places : s.Workload → List (List ℕ)
unfolding definitions
call_places w = places_among (ground_calls w) w.clients
