-- Temporaries are 0 at a split database.
use Rattle.std.proofs.Common.{◌≡◌, refl}
use Rattle.homeo_plan.specs.Key.{definitions}
use Rattle.homeo_plan.specs.Table.{HasNoTemps}
use Rattle.homeo_split.specs.Key.{definitions as split_definitions}
use Rattle.homeo_split.specs.declared.split.Split.{Split}
use Rattle.homeo_split.specs.States.{state_of}
use Rattle.homeo_syntax.specs.declared.low.Temp.TheVariants.{Named, Fresh}

pub no_temps : (base : Split) → HasNoTemps (state_of base)
unfolding definitions split_definitions
no_temps base (Named n) = refl
no_temps base (Fresh n) = refl
