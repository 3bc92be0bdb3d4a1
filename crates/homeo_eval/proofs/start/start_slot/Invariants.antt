use Rattle.std.proofs.Common.{◌≡◌, ◌++◌, ◌∷◌, pos, map, take}
use Rattle.homeo_meaning.specs.Schema.{declared_range}
use Rattle.homeo_meaning.specs.Initial.{nearest_zero}
use Rattle.homeo_eval.proofs.start.start_slot.Given as goal

abbrev pub invariant-loop-field : goal.invariant-loop-field
invariant-loop-field l =
    l.database.items ≡ l.fn.database.items ++ pos 0 ∷ map nearest_zero (map declared_range (take l.field-index l.fields))
