use Rattle.std.proofs.Common.{◌≡◌, length}
use Rattle.homeo_reader.specs.inner.Reading.{with_front}
use Rattle.homeo_reader.specs.inner.Declarations.{clients_read, client_views}
use Rattle.homeo_reader.proofs.parser.Parser.clients.Given as goal

abbrev pub invariant-more : goal.invariant-more
invariant-more l = with_front (client_views l.items.items) (clients_read l.self.rest.now) ≡ clients_read l.initial.self.rest.now

abbrev pub decreases-more : goal.decreases-more
decreases-more l = length l.self.rest.now
