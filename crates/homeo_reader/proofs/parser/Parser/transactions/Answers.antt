-- The loop reads what the repetition reads.
use Rattle.std.proofs.Common.{refl}
use Rattle.homeo_syntax.specs.SourceView.{plain_transaction}
use Rattle.homeo_syntax.specs.Rules.{limit, transaction}
use Rattle.homeo_reader.specs.inner.Declarations.{transactions_read, next_transaction_read}
use Rattle.homeo_reader.proofs.Repeated.{each, pushed, goes_on, fewer, ends, fails}
use Rattle.homeo_reader.proofs.parser.Parser.transactions.Goals as goal

pub more-preserved : goal.more-preserved
unfolding transactions_read next_transaction_read
more-preserved c =
    goes_on limit (each plain_transaction) (transaction c.args.version) refl _ _ _ _ _ _ _ c.in_ok-item.ensures c.in-Some.is
    (pushed _ _ _ _ c.in_ok-push.ensures.ok) c.more.invariant

pub more-smaller : goal.more-smaller
unfolding next_transaction_read
more-smaller c = fewer limit (each plain_transaction) (transaction c.args.version) refl _ _ _ _ c.in_ok-item.ensures c.in-Some.is

pub returns : goal.returns
unfolding transactions_read next_transaction_read
returns c = ends limit (each plain_transaction) (transaction c.args.version) refl _ _ _ _ _ c.in_ok-item.ensures c.in_default.is c.more.invariant

pub returns-in_err-item : goal.returns-in_err-item
unfolding transactions_read next_transaction_read
returns-in_err-item c = fails limit (each plain_transaction) (transaction c.args.version) refl _ _ _ _ _ _ _ c.in_err-item.ensures c.from_residual.ensures.1 c.more.invariant
