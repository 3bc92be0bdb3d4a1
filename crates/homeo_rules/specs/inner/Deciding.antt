-- The fault that decides, computed: the least by phase and offset, and the first of equals.
use Rattle.std.specs.Prelude.{List, [], ◌∷◌, Option, Some, None, if◌then◌else◌}
use Rattle.homeo_meaning.specs.Faults.{comes_before}
use Rattle.homeo_meaning.specs.declared.rules.Fault.{Fault}

-- the one of two that decides
abbrev pub keep : Option Fault → Fault → Option Fault
keep None g = Some g
keep (Some f) g = if comes_before g f then Some g else Some f

-- the one that decides, of one so far and of a list
abbrev pub keep_all : Option Fault → List Fault → Option Fault
keep_all best [] = best
keep_all best (f ∷ fs) = keep_all (keep best f) fs
