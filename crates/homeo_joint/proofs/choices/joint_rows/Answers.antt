-- All numbers by their digits.
use Rattle.std.proofs.Common.{◌≡◌, map, pos, ap, ◌∙◌, arith}
use Rattle.homeo_joint.specs.inner.Digits.{digits_below}
use Rattle.homeo_joint.proofs.choices.joint_rows.Goals as goal

pub returns : goal.returns
returns c =
    let end : c.loop-number.number ≡ c.args.size = omega arith in
    c.loop-number.invariant ∙ ap (λ n. map (map pos) (digits_below c.args.counts.now n)) end
