-- That a command names only objects and names that there are.
use Rattle.std.specs.Prelude.{ℕ, ◌<◌}
use Rattle.homeo_syntax.specs.declared.low.Temp.{Temp}
use Rattle.homeo_syntax.specs.declared.low.Temp.TheVariants.{Named, Fresh}
use Rattle.homeo_syntax.specs.declared.low.SplitName.{SplitName}
use Rattle.homeo_syntax.specs.declared.low.SplitName.TheVariants.{Whole, Base, Delta}
use Rattle.homeo_syntax.specs.Low.{Command}
use Rattle.homeo_meaning.specs.Key.{definitions}
use Rattle.homeo_meaning.specs.Everywhere.{Everywhere}

-- where there are this many objects, and this many names
module _ (objects names : ℕ) where
  abbrev pub ObjectWithin : SplitName → Type 0
  unfolding definitions
  ObjectWithin (Whole x) = x < objects
  ObjectWithin (Base x) = x < objects
  ObjectWithin (Delta x j) = x < objects

  abbrev pub TempWithin : Temp → Type 0
  unfolding definitions
  TempWithin (Named n) = n < names
  TempWithin (Fresh n) = Unit {0}

  -- each object that it reads or writes is one of them, and so is each name of a temporary that it reads or sets
  abbrev pub NamesWithin : Command → Type 0
  NamesWithin = Everywhere ObjectWithin TempWithin
