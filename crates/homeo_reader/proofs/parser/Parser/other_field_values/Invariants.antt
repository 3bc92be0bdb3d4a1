use Rattle.std.proofs.Common.{◌≡◌, length}
use Rattle.homeo_reader.specs.inner.Reading.{with_front}
use Rattle.homeo_reader.specs.inner.Commands.{field_views, other_field_values_read}
use Rattle.homeo_reader.proofs.parser.Parser.other_field_values.Given as goal

abbrev pub invariant-more : goal.invariant-more
invariant-more l =
    with_front (field_views l.items.items) (other_field_values_read l.room l.self.rest.now) ≡ other_field_values_read l.room l.initial.self.rest.now

abbrev pub decreases-more : goal.decreases-more
decreases-more l = length l.self.rest.now
