use Rattle.std.proofs.Common.{◌≡◌, map}
use Rattle.homeo_desk.proofs.callers.Callers.requests.Given as goal

abbrev pub invariant-loop-request : goal.invariant-loop-request
invariant-loop-request l = l.requests.items ≡ map (λ r. r.now) l.yielded
