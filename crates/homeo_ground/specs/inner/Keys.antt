-- What tells calls apart as ground calls, and calls beside theirs.
use Rattle.std.specs.Prelude.{◌≡◌, List, map}
use Rattle.homeo_meaning.specs.GlobalNames as g
use Rattle.homeo_ground.specs.Sited.{sited}
use Rattle.homeo_ground.specs.declared.distinct_calls.DistinctCalls.{DistinctCalls}
use Rattle.homeo_ground.specs.declared.key.Key.{Key}

-- a call, wherever it stands in the text
abbrev pub unplaced : g.SitedCall → g.SitedCall
unplaced c = record { name = record { name = c.name.name; offset = 0 }; args = c.args; site = c.site }

abbrev pub call_of : Key → g.SitedCall
call_of k = record { name = record { name = k.name; offset = 0 }; args = k.args.items; site = k.site }

abbrev pub sited_all : DistinctCalls → List g.SitedCall
sited_all d = map sited d.calls.items

-- the keys are those of the calls, one for one
abbrev pub AreKeys : DistinctCalls → Type 0
AreKeys d = map call_of d.keys.keys ≡ map unplaced (sited_all d)
