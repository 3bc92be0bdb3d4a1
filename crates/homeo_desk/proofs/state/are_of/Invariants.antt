use Rattle.std.specs.Prelude.{◌≡◌, map, take}
use Rattle.homeo_desk.proofs.state.are_of.Given as goal

abbrev pub invariant-loop-i : goal.invariant-loop-i
invariant-loop-i l = map (λ r. r.call) (take l.i l.requests) ≡ take l.i l.calls
