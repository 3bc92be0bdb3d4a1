use Rattle.std.proofs.Common.{◌≡◌, map, drop}
use Rattle.homeo_meaning.specs.Schema.{declared_range}
use Rattle.homeo_meaning.specs.Context.{spot, spot_from}
use Rattle.homeo_context.proofs.spot.find_field.Given as goal

abbrev pub invariant-loop-place : goal.invariant-loop-place
invariant-loop-place l =
    spot_from l.place (map declared_range (drop l.place l.fields)) l.name ≡ spot (map declared_range l.fields) l.name
