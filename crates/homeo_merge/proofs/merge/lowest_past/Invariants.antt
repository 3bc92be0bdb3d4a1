use Rattle.std.proofs.Common.{take}
use Rattle.homeo_merge.specs.inner.Lowest.{IsLowest}
use Rattle.homeo_merge.proofs.merge.lowest_past.Given as goal

abbrev pub invariant-loop-site : goal.invariant-loop-site
invariant-loop-site l = IsLowest l.sites (take l.site-index l.choice) l.lowest
