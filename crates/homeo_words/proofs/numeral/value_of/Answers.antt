use Rattle.std.proofs.Common.{◌≤◌, ◌+◌, ◌-◌, ◌*◌, get_or, arith}
use Rattle.homeo_syntax.specs.Lexemes.{number_value}
use Rattle.homeo_words.proofs.Digits.{read_so_far}
use Rattle.homeo_words.proofs.numeral.value_of.Goals as goal

pub returns-in_err-checked_mul-clause-too_large : goal.returns-in_err-checked_mul-clause-too_large
returns-in_err-checked_mul-clause-too_large c =
    let so_far : c.loop-digit.value * 10 + (get_or c.args.digits.now c.loop-digit.digit-index 0 - 48) ≤ number_value c.args.digits.now =
    read_so_far c.loop-digit.value c.loop-digit.digit-index c.args.digits.now (number_value c.args.digits.now) c.loop-digit-test.true c.loop-digit.invariant in
    rw c.from_residual.ensures (omega (arith, so_far, c.in_err-checked_mul.ensures))

pub returns-in_err-value-clause-too_large : goal.returns-in_err-value-clause-too_large
returns-in_err-value-clause-too_large c =
    let so_far : c.loop-digit.value * 10 + (get_or c.args.digits.now c.loop-digit.digit-index 0 - 48) ≤ number_value c.args.digits.now =
    read_so_far c.loop-digit.value c.loop-digit.digit-index c.args.digits.now (number_value c.args.digits.now) c.loop-digit-test.true c.loop-digit.invariant in
    rw c.from_residual-in_err-value.ensures (omega (arith, so_far, c.in_ok-checked_mul.ensures, c.in_err-value.ensures))
