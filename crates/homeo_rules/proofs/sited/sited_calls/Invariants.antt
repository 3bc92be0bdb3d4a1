use Rattle.std.proofs.Common.{◌≡◌, ◌++◌, drop, map}
use Rattle.homeo_ground.specs.Sited.{sited}
use Rattle.homeo_rules.specs.inner.Sited.{sited_of}
use Rattle.homeo_rules.proofs.sited.sited_calls.Given as goal

abbrev pub invariant-loop-c : goal.invariant-loop-c
invariant-loop-c l = map sited l.calls.items ++ sited_of (drop l.c-index l.cs) ≡ sited_of l.cs
