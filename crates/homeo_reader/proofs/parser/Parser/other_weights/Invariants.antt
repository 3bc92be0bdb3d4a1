use Rattle.std.proofs.Common.{◌≡◌, length}
use Rattle.homeo_reader.specs.inner.Reading.{with_front}
use Rattle.homeo_reader.specs.inner.Declarations.{other_weights_read}
use Rattle.homeo_reader.proofs.parser.Parser.other_weights.Given as goal

abbrev pub invariant-more : goal.invariant-more
invariant-more l = with_front l.items.items (other_weights_read l.self.rest.now) ≡ other_weights_read l.initial.self.rest.now

abbrev pub decreases-more : goal.decreases-more
decreases-more l = length l.self.rest.now
