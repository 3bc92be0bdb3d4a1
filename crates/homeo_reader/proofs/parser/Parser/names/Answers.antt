-- The loop reads what the repetition reads.
use Rattle.std.proofs.Common.{refl}
use Rattle.homeo_syntax.specs.Rules.{limit, ident}
use Rattle.homeo_reader.specs.inner.Declarations.{names_read, next_name_read}
use Rattle.homeo_reader.proofs.Repeated.{plain, pushed, goes_on, fewer, ends}
use Rattle.homeo_reader.proofs.parser.Parser.names.Goals as goal

pub more-preserved : goal.more-preserved
unfolding names_read next_name_read
more-preserved c = goes_on limit plain ident refl _ _ _ _ _ _ _ c.next_name.ensures c.in-Some.is (pushed _ _ _ _ c.in_ok-push.ensures.ok) c.more.invariant

pub more-smaller : goal.more-smaller
unfolding next_name_read
more-smaller c = fewer limit plain ident refl _ _ _ _ c.next_name.ensures c.in-Some.is

pub returns : goal.returns
unfolding names_read next_name_read
returns c = ends limit plain ident refl _ _ _ _ _ c.next_name.ensures c.in_default.is c.more.invariant
