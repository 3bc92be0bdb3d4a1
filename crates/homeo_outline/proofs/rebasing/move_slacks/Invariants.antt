-- The slacks of the clauses so far are moved.
use Rattle.std.proofs.Common.{◌≡◌, ℕ, cond, take}
use Rattle.homeo_meaning.specs.Serial.{values_of}
use Rattle.homeo_follow.specs.Rebased.{gains}
use Rattle.homeo_outline.specs.Numbers.{has}
use Rattle.homeo_outline.specs.inner.Moved.{slack_at, moved_slack}
use Rattle.homeo_outline.proofs.rebasing.move_slacks.Given as goal

abbrev pub invariant-loop-number : goal.invariant-loop-number
invariant-loop-number l =
    let g = gains (values_of l.from) (values_of l.to) in
    (n : ℕ) → slack_at l.made.items n ≡ cond (has n (take l.number-index l.number-items)) (moved_slack g l.outline.terms l.slacks n) (slack_at l.fn.made.items n)
