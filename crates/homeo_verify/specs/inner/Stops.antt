-- Following that goes on, or stops at the first of its faults.
use Rattle.std.specs.Prelude.{◌≡◌, List, [], ◌∷◌, Result, MatchResult}
use Rattle.homeo_certificate.specs.declared.fault.Fault.{Fault}
use Rattle.homeo_verify.specs.declared.stop.Stop.{Stop}
use Rattle.homeo_verify.specs.declared.stop.Stop.TheVariants as stop

-- it stops at the first of the faults, or for want of memory
abbrev pub StopsAt : List Fault → Stop → Type 0
StopsAt fs (stop.Fault f) = (more : List Fault) × (fs ≡ f ∷ more)
StopsAt fs stop.Memory = Unit {0}

-- it goes on where there are none of these faults
abbrev pub Finds : {A : Type 0} → List Fault → Result A Stop → Type 0
Finds fs r = MatchResult r (λ a. fs ≡ []) (StopsAt fs)
