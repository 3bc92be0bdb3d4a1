-- What the calls so far freeze.
use Rattle.std.proofs.Common.{◌≡◌, ℕ, map, take}
use Rattle.homeo_syntax.specs.SourceView.{plain_workload}
use Rattle.homeo_meaning.specs.Serial.{values_of}
use Rattle.homeo_follow.specs.ObjectTemplate.{is_frozen}
use Rattle.homeo_build.specs.inner.Frozen.{is_frozen_in}
use Rattle.homeo_build.proofs.ByObjects.{call_planned}
use Rattle.homeo_build.proofs.calls.object_template.Given as goal

abbrev pub invariant-loop-i : goal.invariant-loop-i
invariant-loop-i l =
    (x j : ℕ) → is_frozen_in l.frozen x j ≡ is_frozen (values_of l.base.items) (map (call_planned (plain_workload l.c)) (take l.i l.call-items)) x j
