use Rattle.std.proofs.Common.{◌≡◌}
use Rattle.homeo_fold.specs.Folding.{folded_of}
use Rattle.homeo_fold.proofs.folding.fold_object.Given as goal

abbrev pub invariant-loop-deltas : goal.invariant-loop-deltas
invariant-loop-deltas l = l.sum ≡ folded_of l.split l.deltas-index l.object
