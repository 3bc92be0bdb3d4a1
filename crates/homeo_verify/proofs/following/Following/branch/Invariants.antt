-- The comparisons so far are kept.
use Rattle.std.specs.List.{flat_map}
use Rattle.homeo_certificate.specs.Followed.{atom_faults}
use Rattle.homeo_verify.specs.inner.Compares.{atoms_of}
use Rattle.homeo_verify.specs.inner.Follows.{rules_in}
use Rattle.homeo_verify.proofs.FlatSteps.{FlatSoFar}
use Rattle.homeo_verify.proofs.following.Following.branch.Given as goal

abbrev pub invariant-loop-compared : goal.invariant-loop-compared
invariant-loop-compared l =
    FlatSoFar (λ c. flat_map (atom_faults (rules_in l.self)) (atoms_of c)) l.compared-items l.compared-index
