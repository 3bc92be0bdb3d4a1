-- Calls with their arguments and sites, as the code holds them.
use Rattle.std.specs.Prelude.{ℤ, List, map}
use Rattle.homeo_syntax.specs.declared.phrase.Number.{Number}
use Rattle.homeo_meaning.specs.GlobalNames as g
use Rattle.homeo_ground.specs.declared.sited.SitedCall.{SitedCall}

abbrev pub values : List Number → List ℤ
values ns = map (λ n. n.value) ns

-- the call that one in the code stands for
abbrev pub sited : SitedCall → g.SitedCall
sited c = record { name = c.name; args = values c.args.now; site = c.site }
