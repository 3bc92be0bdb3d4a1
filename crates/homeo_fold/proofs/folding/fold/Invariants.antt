use Rattle.std.proofs.Common.{◌≡◌}
use Rattle.homeo_meaning.specs.Serial.{values_from}
use Rattle.homeo_fold.specs.Folding.{folded_at}
use Rattle.homeo_fold.proofs.folding.fold.Given as goal

abbrev pub invariant-loop-object : goal.invariant-loop-object
invariant-loop-object l = l.database.items ≡ values_from 0 l.object (folded_at l.split)
