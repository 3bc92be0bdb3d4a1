-- The error of the size is passed on, and there are as many rows as the size says.
use Rattle.std.proofs.Common.{Err, map, pos, sym, ap, ◌∙◌, subst, IsErrAnd, arith}
use Rattle.homeo_joint.specs.TooMany.{IsTooMany}
use Rattle.homeo_joint.proofs.Blocks.{all_choices, digit_rows}
use Rattle.homeo_joint.proofs.Errors.{passed_on, one_error, over_err, none_over, out_of_memory}
use Rattle.homeo_joint.proofs.choices.joint_of_counts.Goals as goal

pub returns-in_err-size-clause-first : goal.returns-in_err-size-clause-first
returns-in_err-size-clause-first c = λ t p e.
    let passed = passed_on c.from_residual.result _ c.from_residual.ensures.1 in
    c.in_err-size.ensures.first t p (ap Err (one_error c.from_residual.result _ _ passed e))

pub returns-in_err-size-clause-over : goal.returns-in_err-size-clause-over
returns-in_err-size-clause-over c = (
  λ h. over_err _ _ c.requires.some c.from_residual.result h (returns-in_err-size-clause-first c),
  λ h. subst (λ r. IsErrAnd r IsTooMany) (sym (passed_on c.from_residual.result _ c.from_residual.ensures.1)) c.in_err-size.ensures.error,
)

pub returns-in_err-rows-clause-over : goal.returns-in_err-rows-clause-over
returns-in_err-rows-clause-over c =
    none_over _ _ (omega (arith, c.in_ok-size.ensures.size, c.in_ok-size.ensures.within))
    (out_of_memory c.from_residual-in_err-rows.result c.from_residual-in_err-rows.ensures.1)

pub returns-clause-over : goal.returns-clause-over
returns-clause-over c = none_over _ _ (omega (arith, c.in_ok-size.ensures.size, c.in_ok-size.ensures.within)) (λ h. h)

pub returns-clause-picks : goal.returns-clause-picks
returns-clause-picks c = λ tables is. c.in_ok-rows.ensures ∙ ap (map (map pos)) (all_choices c.args.counts.now c.in_ok-size.size c.in_ok-size.ensures.size tables is)

pub returns-clause-count : goal.returns-clause-count
returns-clause-count c =
    c.in_ok-rows.rows.ok.0 ∙ digit_rows (λ r. r.picks.items) c.args.counts.now c.in_ok-size.size c.in_ok-rows.rows.items c.in_ok-size.ensures.size c.in_ok-rows.ensures

pub returns-clause-within : goal.returns-clause-within
returns-clause-within c = omega (arith, returns-clause-count c, c.in_ok-size.ensures.size, c.in_ok-size.ensures.within)
