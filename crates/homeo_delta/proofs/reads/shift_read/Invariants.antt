use Rattle.std.proofs.Common.{◌≡◌, ◌∷◌, map}
use Rattle.std.specs.List.{range_with_len}
use Rattle.homeo_syntax.specs.Low as low
use Rattle.homeo_syntax.specs.LowView.{plain_lexpr}
use Rattle.homeo_syntax.specs.declared.low.SplitName.TheVariants.{Base}
use Rattle.homeo_delta.proofs.DeltaReads.{delta_at}
use Rattle.homeo_delta.proofs.reads.shift_read.Given as goal

abbrev pub invariant-loop-site : goal.invariant-loop-site
invariant-loop-site l = map plain_lexpr l.terms.items ≡ low.Read (Base l.object) ∷ map (delta_at l.object) (range_with_len 0 l.site)
