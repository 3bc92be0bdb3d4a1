-- What is sent of a member of an object.
use Rattle.std.specs.Prelude.{ℕ, List}
use Rattle.serde.specs.Event.{Log, Logs, field_key}
use Rattle.serde.specs.declared.name.Case.TheVariants.{AsIs}
use Rattle.serde_json.specs.Data.{Data}
use Rattle.serde_json.specs.Events.{SendsValue}

-- its key, and then its value
abbrev pub SendsMember : List ℕ → Data → Log → Log → Type 0
SendsMember key value old new = (keyed : Log) × Logs old keyed (field_key key AsIs) × SendsValue value keyed new
