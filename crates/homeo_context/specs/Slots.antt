-- The declared places and the slots that the code's values stand for.
use Rattle.std.specs.Prelude.{◌<◌, ◌^◌, ◌+◌, ◌*◌, List, map, length}
use Rattle.homeo_context.specs.declared.spot.Spot as code_spot
use Rattle.homeo_context.specs.declared.slots.Slot as code_slot
use Rattle.homeo_context.specs.declared.slots.Slots.{Slots}
use Rattle.homeo_meaning.specs.Schema.{declared_range}
use Rattle.homeo_meaning.specs.Context.{Spot, Slot, slots_from}

abbrev pub plain_spot : code_spot.Spot → Spot
plain_spot s = record { place = s.place; lo = s.lo; hi = s.hi }

abbrev pub plain_slot : code_slot.Slot → Slot
plain_slot s = record { number = s.number; used = s.used; fields = map declared_range s.fields.now }

-- all slots of a relation, in the order of their numbers
abbrev pub slots_of : Slots → List Slot
slots_of t = slots_from 0 t.first (map declared_range t.fields.now) t.count

-- the numbers of its objects can be told
abbrev pub IsCounted : Slots → Type 0
IsCounted t = t.first + t.count * (1 + length t.fields.now) < 2 ^ 63

-- the numbers of its objects are those of an L form, of 32 bits
abbrev pub IsNumbered : Slots → Type 0
IsNumbered t = t.first + t.count * (1 + length t.fields.now) < 2 ^ 32
