use Rattle.std.proofs.Common.{◌≡◌, length}
use Rattle.homeo_reader.specs.inner.Reading.{with_front}
use Rattle.homeo_reader.specs.inner.Declarations.{relations_read, relation_views}
use Rattle.homeo_reader.proofs.parser.Parser.relations.Given as goal

abbrev pub invariant-more : goal.invariant-more
invariant-more l = with_front (relation_views l.items.items) (relations_read l.self.rest.now) ≡ relations_read l.initial.self.rest.now

abbrev pub decreases-more : goal.decreases-more
decreases-more l = length l.self.rest.now
