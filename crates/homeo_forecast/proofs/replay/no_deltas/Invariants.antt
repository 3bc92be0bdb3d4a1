use Rattle.std.proofs.Common.{◌≡◌, map, pos, replicate}
use Rattle.homeo_forecast.proofs.replay.no_deltas.Given as goal

abbrev pub invariant-loop : goal.invariant-loop
invariant-loop l = map (λ d. d.items) l.deltas.items ≡ replicate l.counter (replicate l.objects (pos 0))
