use Rattle.std.proofs.Common.{◌≡◌, ◌++◌, drop, map}
use Rattle.homeo_ground.specs.Sited.{sited}
use Rattle.homeo_rules.specs.inner.Sited.{sited_at}
use Rattle.homeo_rules.proofs.sited.push_calls.Given as goal

abbrev pub invariant-loop-c : goal.invariant-loop-c
invariant-loop-c l = map sited l.calls.items ++ sited_at l.site (drop l.c-index l.cs) ≡ map sited l.initial.calls.items ++ sited_at l.site l.cs
