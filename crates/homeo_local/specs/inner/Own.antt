-- The states that the lists of a run at a site stand for.
use Rattle.std.specs.Prelude.{ℤ, pos, List}
use Rattle.std.specs.Int.{w64, int_wrap}
use Rattle.homeo_syntax.specs.declared.low.Temp.{Temp}
use Rattle.homeo_meaning.specs.LowMeaning.{State, TempAt, BaseAt, DeltaAt}
use Rattle.homeo_split.specs.States.{temps_of}
use Rattle.homeo_local.specs.declared.own.Own.{Own}
use Rattle.homeo_local.specs.inner.Key.{definitions}
use Rattle.homeo_local.specs.OwnValues.{own_values}

-- an object is its base and its delta, as i64 adds them; 0 wherever a list ends, and at deltas of sites
abbrev pub own_with : List ℤ → List ℤ → (Temp → ℤ) → State
own_with base deltas temps (TempAt t) = temps t
own_with base deltas temps (BaseAt x) = int_wrap w64 (own_values base deltas x)
own_with base deltas temps (DeltaAt x j) = pos 0

abbrev pub plain_own : Own → State
unfolding definitions
plain_own o = own_with o.base.now o.deltas.items (temps_of o.temporaries)
