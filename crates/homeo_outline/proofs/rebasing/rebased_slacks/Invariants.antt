-- The slacks are settled, as far as the objects so far go.
use Rattle.std.proofs.Common.{ℕ, ◌<◌, length}
use Rattle.homeo_meaning.specs.Serial.{values_of}
use Rattle.homeo_follow.specs.Rebased.{gains}
use Rattle.homeo_outline.proofs.Moving.{Settled}
use Rattle.homeo_outline.proofs.rebasing.rebased_slacks.Given as goal

abbrev pub invariant-loop-object : goal.invariant-loop-object
invariant-loop-object l =
    let g = gains (values_of l.from) (values_of l.to) in
    (n : ℕ) → n < length l.outline.terms → Settled g l.outline.terms l.slacks l.object l.made.items n
