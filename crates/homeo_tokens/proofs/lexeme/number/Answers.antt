use Rattle.std.proofs.Common.{arith}
use Rattle.homeo_syntax.specs.Lexemes.{number_value}
use Rattle.homeo_tokens.proofs.Steps.{power_fits, power_is_small, value_fits, value_stays, all_digits}
use Rattle.homeo_tokens.proofs.lexeme.number.Goals as goal

pub overflow_mul-value : goal.overflow_mul-value
overflow_mul-value c = omega (arith, power_fits c.loop-d.value c.loop-d.d-index c.loop-d.invariant.bound (omega arith))

pub overflow_add-value : goal.overflow_add-value
overflow_add-value c = omega (arith, power_fits c.loop-d.value c.loop-d.d-index c.loop-d.invariant.bound (omega arith), c.type_inv.digits c.loop-d.d-index)

pub overflow_cast-result : goal.overflow_cast-result
overflow_cast-result c = value_fits c.loop-d.value (power_is_small c.loop-d.value c.loop-d.d-index c.loop-d.invariant.bound (omega arith))

pub returns : goal.returns
returns c =
    value_stays c.loop-d.value (number_value c.args.digits.now) (power_is_small c.loop-d.value c.loop-d.d-index c.loop-d.invariant.bound (omega arith))
    (all_digits c.loop-d.value c.loop-d.d-index c.args.digits.now c.loop-d.invariant.rest c.loop-d-test.false)
