-- None so far.
use Rattle.std.proofs.Common.{◌≡◌, map, replicate, None}
use Rattle.homeo_live.specs.LiveView.{plain_state}
use Rattle.homeo_live.proofs.states.no_states.Given as goal

abbrev pub invariant-loop : goal.invariant-loop
invariant-loop l = map plain_state l.states.items ≡ replicate l.counter None
