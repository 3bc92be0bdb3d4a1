-- The loop reads what the repetition reads.
use Rattle.std.proofs.Common.{refl}
use Rattle.homeo_syntax.specs.SourceView.{plain_field}
use Rattle.homeo_reader.specs.inner.Commands.{other_field_values_read, next_field_value_read}
use Rattle.homeo_reader.proofs.CommandSteps.{comma_field_value}
use Rattle.homeo_reader.proofs.Repeated.{each, goes_on, fewer, ends, fails}
use Rattle.homeo_reader.proofs.parser.Parser.other_field_values.Goals as goal

pub more-preserved : goal.more-preserved
unfolding other_field_values_read next_field_value_read
more-preserved c =
    goes_on c.args.room (each plain_field) comma_field_value refl _ _ _ _ _ _ _ c.in_ok-item.ensures c.in-Some.is c.in_ok-push.ensures.items c.more.invariant

pub more-smaller : goal.more-smaller
unfolding next_field_value_read
more-smaller c = fewer c.args.room (each plain_field) comma_field_value refl _ _ _ _ c.in_ok-item.ensures c.in-Some.is

pub returns : goal.returns
unfolding other_field_values_read next_field_value_read
returns c = ends c.args.room (each plain_field) comma_field_value refl _ _ _ _ _ c.in_ok-item.ensures c.in_default.is c.more.invariant

pub returns-in_err-item : goal.returns-in_err-item
unfolding other_field_values_read next_field_value_read
returns-in_err-item c =
    fails c.args.room (each plain_field) comma_field_value refl _ _ _ _ _ _ _ c.in_err-item.ensures c.from_residual.ensures.1 c.more.invariant
