-- All calls with their sites, as the code goes along them.
use Rattle.std.specs.Prelude.{ℤ, List, [], ◌∷◌, ◌++◌}
use Rattle.homeo_syntax.specs.declared.workload.Call.{Call}
use Rattle.homeo_syntax.specs.declared.workload.Client.{Client}
use Rattle.homeo_meaning.specs.GlobalNames as g
use Rattle.homeo_ground.specs.Sited.{values}

-- calls with their site
abbrev pub sited_at : ℤ → List Call → List g.SitedCall
sited_at site [] = []
sited_at site (c ∷ cs) = record { name = c.name; args = values c.args.items; site = site } ∷ sited_at site cs

abbrev pub sited_of : List Client → List g.SitedCall
sited_of [] = []
sited_of (c ∷ cs) = sited_at c.site.value c.calls.items ++ sited_of cs
