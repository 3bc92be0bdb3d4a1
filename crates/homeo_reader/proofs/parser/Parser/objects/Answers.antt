-- The loop reads what the repetition reads.
use Rattle.std.proofs.Common.{refl}
use Rattle.homeo_syntax.specs.Rules.{limit, object}
use Rattle.homeo_reader.specs.inner.Declarations.{objects_read, next_object_read}
use Rattle.homeo_reader.proofs.Repeated.{plain, pushed, goes_on, fewer, ends, fails}
use Rattle.homeo_reader.proofs.parser.Parser.objects.Goals as goal

pub more-preserved : goal.more-preserved
unfolding objects_read next_object_read
more-preserved c = goes_on limit plain object refl _ _ _ _ _ _ _ c.in_ok-item.ensures c.in-Some.is (pushed _ _ _ _ c.in_ok-push.ensures.ok) c.more.invariant

pub more-smaller : goal.more-smaller
unfolding next_object_read
more-smaller c = fewer limit plain object refl _ _ _ _ c.in_ok-item.ensures c.in-Some.is

pub returns : goal.returns
unfolding objects_read next_object_read
returns c = ends limit plain object refl _ _ _ _ _ c.in_ok-item.ensures c.in_default.is c.more.invariant

pub returns-in_err-item : goal.returns-in_err-item
unfolding objects_read next_object_read
returns-in_err-item c = fails limit plain object refl _ _ _ _ _ _ _ c.in_err-item.ensures c.from_residual.ensures.1 c.more.invariant
