-- Ground calls made of calls with their sites.
use Rattle.std.specs.Prelude.{ℕ, ℤ, pos, ◌≤ℤ◌, ◌<ℤ◌, List}
use Rattle.homeo_meaning.specs.GlobalNames as g
use Rattle.homeo_meaning.specs.Schema.{nat_of}
use Rattle.homeo_meaning.specs.Declarations.{place_of}
use Rattle.homeo_meaning.specs.Ground.{Ground}

-- the number of a site that a workload may have
abbrev pub IsSite : ℤ → Type 0
IsSite site = (pos 0 ≤ℤ site) × (site <ℤ pos 16)

-- a call with its transaction by its place among the transactions' names
abbrev pub ground_by : List ℕ → g.SitedCall → Ground
ground_by transactions c = record { transaction = place_of transactions c.name.name; args = c.args; site = nat_of c.site }
