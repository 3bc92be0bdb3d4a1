use Rattle.std.proofs.Common.{◌≡◌, drop}
use Rattle.homeo_rules.proofs.SizesAlong.{sizes_of}
use Rattle.homeo_rules.proofs.rules.sizes.check_sizes.Given as goal

abbrev pub invariant-loop-measured : goal.invariant-loop-measured
invariant-loop-measured l = sizes_of l.total l.best (drop l.measured-index l.calls) ≡ sizes_of 0 l.initial.best l.calls
