-- That the objects of a schema fit the numbers of an L form, of 32 bits.
use Rattle.std.specs.Prelude.{ℕ, ◌+◌, ◌^◌, ◌<◌, length}
use Rattle.homeo_meaning.specs.Schema.{Schema}
use Rattle.homeo_meaning.specs.Context.{object_count}

-- the numbers of all objects, and one more
abbrev pub SchemaFits : Schema → Type 0
SchemaFits x = object_count (length x.objects) x.relations + 1 < 2 ^ 32
