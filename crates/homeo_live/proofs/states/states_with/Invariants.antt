-- The states so far.
use Rattle.std.proofs.Common.{◌≡◌, map, take, Some, slice_set}
use Rattle.homeo_carry.specs.CarryView.{plain_said}
use Rattle.homeo_live.specs.LiveView.{plain_state}
use Rattle.homeo_live.proofs.states.states_with.Given as goal

abbrev pub invariant-loop-i : goal.invariant-loop-i
invariant-loop-i l =
    map plain_state l.copies.items ≡ take l.i (slice_set (map plain_state l.states) l.site (Some (plain_said l.said)))
