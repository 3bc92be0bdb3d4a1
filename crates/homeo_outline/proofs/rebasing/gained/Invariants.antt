-- What the terms so far gained, with what the others gained, is what all gained.
use Rattle.std.proofs.Common.{◌≡◌, drop, ◌+ℤ◌}
use Rattle.homeo_meaning.specs.Serial.{values_of}
use Rattle.homeo_follow.specs.Rebased.{gained, gains}
use Rattle.homeo_outline.proofs.rebasing.gained.Given as goal

abbrev pub invariant-loop-term : goal.invariant-loop-term
invariant-loop-term l =
    let g = gains (values_of l.from) (values_of l.to) in
    l.sum +ℤ gained g (drop l.term-index l.terms) ≡ gained g l.terms
