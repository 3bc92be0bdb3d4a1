use Rattle.std.proofs.Common.{◌≡◌, take}
use Rattle.std.specs.Int.{w64, int_wrap}
use Rattle.homeo_meaning.specs.Serial.{values_of}
use Rattle.homeo_linear.proofs.Owning.{sum_of}
use Rattle.homeo_linear.proofs.effect.OwnForm.value.Given as goal

abbrev pub invariant-loop-term : goal.invariant-loop-term
invariant-loop-term l = l.sum ≡ int_wrap w64 (sum_of (take l.term-index l.term-items) (values_of l.deltas))
