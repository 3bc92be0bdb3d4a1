-- What is sent of objects.
use Rattle.std.specs.Prelude.{ℕ, ◌+◌, List, ◌++◌, length, Some}
use Rattle.serde.specs.Event.{Log, Logs, field_key, map_begins}
use Rattle.serde.specs.declared.name.Case.TheVariants.{AsIs}
use Rattle.serde_json.specs.Events.{SendsValue, SendsMembers}
use Rattle.homeo_lines.specs.Written.{Field, members_of}

-- a key, and then its value
abbrev pub SendsField : Field → Log → Log → Type 0
SendsField f old new = (keyed : Log) × Logs old keyed (field_key f.0 AsIs) × SendsValue f.1 keyed new

-- these members are sent: whatever ends an object well from there ends it well from here, with these in front
abbrev pub SendsFields : List Field → Log → Log → Type 0
SendsFields fs old new = (rest : List Field) (end : Log) → SendsMembers (members_of rest) new end → SendsMembers (members_of (fs ++ rest)) old end

-- an object of these members, and so many more, begins with these
pub record Begins (fs : List Field) (more : ℕ) (old new : Log) : Type 0 where
  pub first : Log
  pub begins : Logs old first (map_begins (Some (length fs + more)))
  pub sends : SendsFields fs first new
