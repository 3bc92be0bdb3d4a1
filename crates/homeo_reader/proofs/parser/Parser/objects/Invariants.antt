use Rattle.std.proofs.Common.{◌≡◌, length}
use Rattle.homeo_reader.specs.inner.Reading.{with_front}
use Rattle.homeo_reader.specs.inner.Declarations.{objects_read}
use Rattle.homeo_reader.proofs.parser.Parser.objects.Given as goal

abbrev pub invariant-more : goal.invariant-more
invariant-more l = with_front l.items.items (objects_read l.self.rest.now) ≡ objects_read l.initial.self.rest.now

abbrev pub decreases-more : goal.decreases-more
decreases-more l = length l.self.rest.now
