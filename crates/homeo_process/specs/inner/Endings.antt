-- What was written where a stream ended.
use Rattle.std.specs.Prelude.{Option, ℕ, List}
use Rattle.homeo_process.specs.Serving.{WroteAll, WroteEarly, WroteSome}
use Rattle.homeo_process.specs.declared.process.Ending.{Ending}
use Rattle.homeo_process.specs.declared.process.Ending.TheVariants.{Done, Refused, Memory, ReadFault, WriteFault}

-- by how it ended
abbrev pub Wrote : Ending → (left left' taken taken' : Option (List ℕ)) → Type 0
Wrote Done left left' taken taken' = WroteAll left left' taken taken'
Wrote (Refused r) left left' taken taken' = WroteEarly left left' taken taken'
Wrote Memory left left' taken taken' = WroteEarly left left' taken taken'
Wrote ReadFault left left' taken taken' = WroteAll left left' taken taken'
Wrote WriteFault left left' taken taken' = WroteSome left left' taken taken'
