-- The loop of `joint_rows`.
use Rattle.std.proofs.Common.{◌≡◌, map, pos}
use Rattle.homeo_joint.specs.inner.Digits.{digits_below}
use Rattle.homeo_joint.proofs.choices.joint_rows.Given as goal

abbrev pub invariant-loop-number : goal.invariant-loop-number
invariant-loop-number l = map (λ r. r.picks.items) l.rows.items ≡ map (map pos) (digits_below l.counts l.number)
