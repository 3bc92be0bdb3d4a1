-- No number is past the last site in a choice of none.
use Rattle.std.proofs.Common.{refl}
use Rattle.homeo_history.specs.Key.{definitions}
use Rattle.homeo_merge.proofs.merge.lowest_past.Goals as goal

pub loop-site-init : goal.loop-site-init
unfolding definitions
loop-site-init c = λ i le. refl
