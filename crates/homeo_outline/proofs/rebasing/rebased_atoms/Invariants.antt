-- The atoms so far are rebased, and hold.
use Rattle.homeo_meaning.specs.Serial.{values_of}
use Rattle.homeo_follow.specs.Rebased.{gains}
use Rattle.homeo_outline.proofs.Holding.{AreSoFar}
use Rattle.homeo_outline.proofs.rebasing.rebased_atoms.Given as goal

abbrev pub invariant-loop-atom : goal.invariant-loop-atom
invariant-loop-atom l = AreSoFar (gains (values_of l.from) (values_of l.to)) l.atoms l.atom-index l.made.items
