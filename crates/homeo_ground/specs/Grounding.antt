-- The distinct ground calls of a workload, and the place of each call among them.
use Rattle.std.specs.Prelude.{◌≡◌, IsSome, slice_get}
use Rattle.homeo_syntax.specs.Source as s
use Rattle.homeo_meaning.specs.declared.call.CallId.{CallId}
use Rattle.homeo_meaning.specs.Acceptance.{IsLightBody}
use Rattle.homeo_meaning.specs.Calls.{CallExists, IsGroundCall}
use Rattle.homeo_meaning.specs.CallPlaces.{call_places}
use Rattle.homeo_meaning.specs.Ground.{Ground, grounds}
use Rattle.homeo_ground.specs.Key.{definitions}
use Rattle.homeo_ground.specs.Table.{GroundTable}

abbrev pub grounding : s.Workload → GroundTable
unfolding definitions
grounding w = record { calls = grounds w; places = call_places w }

-- some workload has this table, and it has the call
pub record IsCallIn (table : GroundTable) (id : CallId) : Type 0 where
  pub workload : s.Workload
  pub same : table ≡ grounding workload
  pub exists : CallExists workload id

-- some client of the workload makes the ground call, there is its transaction, and no expression of its L form weighs too much
pub record IsCalled (w : s.Workload) (g : Ground) : Type 0 where
  pub made : IsGroundCall w g.transaction g.args
  pub there : IsSome (slice_get w.transactions g.transaction)
  pub light : IsLightBody w (slice_get w.transactions g.transaction) g.args
