-- The deltas so far depend on no delta of another site that isn't frozen.
use Rattle.homeo_verify.specs.inner.Follows.{written_faults}
use Rattle.homeo_verify.proofs.FlatSteps.{FlatSoFar}
use Rattle.homeo_verify.proofs.following.Following.end.Given as goal

abbrev pub invariant-loop-delta : goal.invariant-loop-delta
invariant-loop-delta l = FlatSoFar (written_faults l.fn.self) l.delta-items l.delta-index
