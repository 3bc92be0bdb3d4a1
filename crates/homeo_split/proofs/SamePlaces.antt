-- Places are equal where their locations are, and each location has a place.
use Rattle.std.proofs.Common.{rules, ◌≡◌, Bool}
use Rattle.homeo_syntax.specs.declared.low.Temp.TheVariants as temps
use Rattle.homeo_meaning.specs.Key.{definitions as meaning_definitions}
use Rattle.homeo_meaning.specs.LowMeaning.{Location, TempAt, BaseAt, DeltaAt, same_location}
use Rattle.homeo_split.specs.contracts.places.PlacePartialEq.TheImpl.{ghosts}
use Rattle.homeo_split.specs.declared.places.Place.{Place}
use Rattle.homeo_split.specs.declared.places.Place.TheVariants.{Named, Fresh, Base, Delta}
use Rattle.homeo_split.specs.Places.{plain_place}

abbrev pub is_at : Location → Place → Bool
is_at l p = same_location l (plain_place p)

pub at_each_place : (P : Location → Type 0) → ((p : Place) → P (plain_place p)) → (l : Location) → P l
at_each_place P h (TempAt (temps.Named n)) = h (Named n)
at_each_place P h (TempAt (temps.Fresh n)) = h (Fresh n)
at_each_place P h (BaseAt x) = h (Base x)
at_each_place P h (DeltaAt x j) = h (Delta x j)

pub same-places : (a b : Place) → ghosts.eq a b ≡ is_at (plain_place a) b
unfolding meaning_definitions
same-places a b = search rules
