-- What a run under `serve` did to its source and its output, by its status.
use Rattle.std.specs.Prelude.{ℕ, List}
use Rattle.std.specs.declared.option.Option.{Option}
use Rattle.homeo_syntax.specs.declared.workload.Refusal.{Refusal}
use Rattle.homeo_commands.specs.Served.{ServedAll, ServedTo, ServedEarly, ServedSoFar, ServedPart}
use Rattle.homeo.specs.declared.status.Status.{Status}
use Rattle.homeo.specs.declared.status.Status.TheVariants.{Done, Usage, Refused, Memory, ReadFault, WriteFault}

-- what was answered to a stream, where the run ended so
abbrev pub Serves : Status → (left left' taken taken' : Option (List ℕ)) → Type 0
Serves Done left left' taken taken' = ServedAll left left' taken taken'
Serves Usage left left' taken taken' = ⊥
Serves Refused left left' taken taken' = ((r : Refusal) × ServedTo r left left' taken taken') × ServedEarly left left' taken taken'
Serves Memory left left' taken taken' = ServedEarly left left' taken taken'
Serves ReadFault left left' taken taken' = ServedSoFar left left' taken taken'
Serves WriteFault left left' taken taken' = ServedPart left left' taken taken'
