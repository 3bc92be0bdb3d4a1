-- Events that draws choose.
use Rattle.std.specs.Prelude.{ℕ, ◌<◌}
use Rattle.homeo_wire.specs.declared.events.Event.{Event}
use Rattle.homeo_wire.specs.declared.events.Event.TheVariants.{Call, Deliver}

-- a call of one of so many clients
abbrev pub IsCallOf : ℕ → Event → Type 0
IsCallOf clients (Call client) = client < clients
IsCallOf clients (Deliver site packet) = ⊥
