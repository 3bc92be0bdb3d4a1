-- Calls whose values stay small.
use Rattle.homeo_syntax.specs.Source as s
use Rattle.homeo_meaning.specs.Key.{definitions}
use Rattle.homeo_meaning.specs.Serial.{transaction_named, arguments}
use Rattle.homeo_meaning.specs.Acceptance.{IsLightBody}

-- no expression of the call's L form weighs more than the limit
abbrev pub IsLightCall : s.Workload → s.Call → Type 0
unfolding definitions
IsLightCall w c = IsLightBody w (transaction_named w c.name.name) (arguments c)
