-- The counts so far are 0.
use Rattle.std.proofs.Common.{◌≡◌, replicate}
use Rattle.homeo_wire.proofs.wire.no_calls.Given as goal

abbrev pub invariant-loop : goal.invariant-loop
invariant-loop l = l.counts.items ≡ replicate l.counter 0
