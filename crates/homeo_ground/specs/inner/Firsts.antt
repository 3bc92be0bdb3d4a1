-- Calls with their places among distinct calls.
use Rattle.std.specs.Prelude.{◌≡◌, ℕ, List, ◌++◌, map}
use Rattle.homeo_meaning.specs.CallPlaces.{place_among}
use Rattle.homeo_meaning.specs.GlobalNames.{SitedCall}
use Rattle.homeo_meaning.specs.NumberRules.{distinct_after}

-- these are the places of calls among those kept, the calls themselves and all that come after them
pub record ArePlaces (kept calls : List SitedCall) (places : List ℕ) : Type 0 where
  pub after : List SitedCall
  pub are : places ≡ map (place_among (distinct_after kept (calls ++ after))) calls
