-- That a command names whole objects only: no base and no delta.
use Rattle.homeo_syntax.specs.declared.low.Temp.{Temp}
use Rattle.homeo_syntax.specs.declared.low.SplitName.{SplitName}
use Rattle.homeo_syntax.specs.declared.low.SplitName.TheVariants.{Whole, Base, Delta}
use Rattle.homeo_syntax.specs.Low.{Command}
use Rattle.homeo_meaning.specs.Key.{definitions}
use Rattle.homeo_meaning.specs.Everywhere.{Everywhere}

abbrev pub IsWholeName : SplitName → Type 0
unfolding definitions
IsWholeName (Whole x) = Unit {0}
IsWholeName (Base x) = ⊥
IsWholeName (Delta x j) = ⊥

abbrev pub AnyTemp : Temp → Type 0
AnyTemp t = Unit {0}

-- each name that it reads or writes is whole
abbrev pub IsWhole : Command → Type 0
IsWhole = Everywhere IsWholeName AnyTemp
