-- Those so far are kept.
use Rattle.std.proofs.Common.{◌≡◌, map, take}
use Rattle.homeo_desk.specs.declared.output.Request.{Request}
use Rattle.homeo_lines.proofs.state_reading.calls_of.Given as goal

abbrev pub invariant-loop-request : goal.invariant-loop-request
invariant-loop-request l = l.calls.items ≡ map (λ (r : Request). r.call) (take l.request-index l.requests)
