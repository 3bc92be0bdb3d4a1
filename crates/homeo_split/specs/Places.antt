-- The location that a place stands for.
use Rattle.homeo_syntax.specs.declared.low.Temp.TheVariants as temps
use Rattle.homeo_meaning.specs.LowMeaning.{Location, TempAt, BaseAt, DeltaAt}
use Rattle.homeo_split.specs.declared.places.Place.{Place}
use Rattle.homeo_split.specs.declared.places.Place.TheVariants.{Named, Fresh, Base, Delta}

abbrev pub plain_place : Place → Location
plain_place (Named n) = TempAt (temps.Named n)
plain_place (Fresh n) = TempAt (temps.Fresh n)
plain_place (Base x) = BaseAt x
plain_place (Delta x j) = DeltaAt x j
