-- The loop reads what the repetition reads.
use Rattle.std.proofs.Common.{refl}
use Rattle.homeo_syntax.specs.Rules.{limit}
use Rattle.homeo_reader.specs.inner.Declarations.{other_weights_read, next_weight_read}
use Rattle.homeo_reader.proofs.DeclarationSteps.{comma_weight}
use Rattle.homeo_reader.proofs.Repeated.{plain, goes_on, fewer, ends, fails}
use Rattle.homeo_reader.proofs.parser.Parser.other_weights.Goals as goal

pub more-preserved : goal.more-preserved
unfolding other_weights_read next_weight_read
more-preserved c = goes_on limit plain comma_weight refl _ _ _ _ _ _ _ c.in_ok-item.ensures c.in-Some.is c.in_ok-push.ensures.items c.more.invariant

pub more-smaller : goal.more-smaller
unfolding next_weight_read
more-smaller c = fewer limit plain comma_weight refl _ _ _ _ c.in_ok-item.ensures c.in-Some.is

pub returns : goal.returns
unfolding other_weights_read next_weight_read
returns c = ends limit plain comma_weight refl _ _ _ _ _ c.in_ok-item.ensures c.in_default.is c.more.invariant

pub returns-in_err-item : goal.returns-in_err-item
unfolding other_weights_read next_weight_read
returns-in_err-item c = fails limit plain comma_weight refl _ _ _ _ _ _ _ c.in_err-item.ensures c.from_residual.ensures.1 c.more.invariant
