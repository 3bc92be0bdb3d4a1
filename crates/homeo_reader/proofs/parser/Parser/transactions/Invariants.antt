use Rattle.std.proofs.Common.{◌≡◌, length}
use Rattle.homeo_reader.specs.inner.Reading.{with_front}
use Rattle.homeo_reader.specs.inner.Declarations.{transactions_read, transaction_views}
use Rattle.homeo_reader.proofs.parser.Parser.transactions.Given as goal

abbrev pub invariant-more : goal.invariant-more
invariant-more l = with_front (transaction_views l.items.items) (transactions_read l.version l.self.rest.now) ≡ transactions_read l.version l.initial.self.rest.now

abbrev pub decreases-more : goal.decreases-more
decreases-more l = length l.self.rest.now
