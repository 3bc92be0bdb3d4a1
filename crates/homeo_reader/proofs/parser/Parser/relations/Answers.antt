-- The loop reads what the repetition reads.
use Rattle.std.proofs.Common.{refl}
use Rattle.homeo_syntax.specs.SourceView.{plain_relation}
use Rattle.homeo_syntax.specs.Rules.{limit, relation}
use Rattle.homeo_reader.specs.inner.Declarations.{relations_read, next_relation_read}
use Rattle.homeo_reader.proofs.Repeated.{each, pushed, goes_on, fewer, ends, fails}
use Rattle.homeo_reader.proofs.parser.Parser.relations.Goals as goal

pub more-preserved : goal.more-preserved
unfolding relations_read next_relation_read
more-preserved c =
    goes_on limit (each plain_relation) relation refl _ _ _ _ _ _ _ c.in_ok-item.ensures c.in-Some.is
    (pushed _ _ _ _ c.in_ok-push.ensures.ok) c.more.invariant

pub more-smaller : goal.more-smaller
unfolding next_relation_read
more-smaller c = fewer limit (each plain_relation) relation refl _ _ _ _ c.in_ok-item.ensures c.in-Some.is

pub returns : goal.returns
unfolding relations_read next_relation_read
returns c = ends limit (each plain_relation) relation refl _ _ _ _ _ c.in_ok-item.ensures c.in_default.is c.more.invariant

pub returns-in_err-item : goal.returns-in_err-item
unfolding relations_read next_relation_read
returns-in_err-item c = fails limit (each plain_relation) relation refl _ _ _ _ _ _ _ c.in_err-item.ensures c.from_residual.ensures.1 c.more.invariant
