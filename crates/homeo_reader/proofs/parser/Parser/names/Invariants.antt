use Rattle.std.proofs.Common.{◌≡◌, length}
use Rattle.homeo_reader.specs.inner.Reading.{with_front}
use Rattle.homeo_reader.specs.inner.Declarations.{names_read}
use Rattle.homeo_reader.proofs.parser.Parser.names.Given as goal

abbrev pub invariant-more : goal.invariant-more
invariant-more l = with_front l.items.items (names_read l.self.rest.now) ≡ names_read l.initial.self.rest.now

abbrev pub decreases-more : goal.decreases-more
decreases-more l = length l.self.rest.now
