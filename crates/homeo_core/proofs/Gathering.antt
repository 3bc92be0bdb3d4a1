-- While the deltas of sites are added to the base, each sum is within bounds.
use Rattle.homeo_core.specs.Key.{definitions}
use Rattle.homeo_core.specs.Laws.{Gathering}
use Rattle.homeo_core.proofs.OpenRound.{first_within}

pub gathering : Gathering
unfolding definitions
gathering w start b sites n accepted joined = first_within w start b sites accepted joined n
