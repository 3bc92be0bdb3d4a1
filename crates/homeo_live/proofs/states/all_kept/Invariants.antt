-- Those so far are there.
use Rattle.std.proofs.Common.{◌≡◌}
use Rattle.homeo_live.proofs.StateLists.{from_on}
use Rattle.homeo_live.proofs.states.all_kept.Given as goal

abbrev pub invariant-loop-state : goal.invariant-loop-state
invariant-loop-state l = from_on l.states 0 ≡ from_on l.states l.state-index
