use Rattle.std.proofs.Common.{◌≡◌, ◌∷◌, map}
use Rattle.homeo_syntax.specs.Low as low
use Rattle.homeo_syntax.specs.LowView.{plain_lexpr}
use Rattle.homeo_syntax.specs.declared.low.SplitName.TheVariants.{Base}
use Rattle.homeo_delta.proofs.DeltaReads.{minus_delta, others}
use Rattle.homeo_delta.proofs.commands.shift_write.Given as goal

abbrev pub invariant-loop-other : goal.invariant-loop-other
invariant-loop-other l =
    map plain_lexpr l.terms.items ≡
    plain_lexpr l.fn.value ∷ low.Neg (low.Read (Base l.object)) ∷ map (minus_delta l.object) (others l.site 0 l.other)
