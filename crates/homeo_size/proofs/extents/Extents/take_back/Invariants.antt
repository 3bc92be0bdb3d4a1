-- What is left to take back leaves what all leaves.
use Rattle.std.proofs.Common.{◌≡◌, length}
use Rattle.homeo_size.specs.inner.Store.{back_to}
use Rattle.homeo_size.specs.inner.Tables.{store_in}
use Rattle.homeo_size.proofs.extents.Extents.take_back.Given as goal

abbrev pub invariant-loop-self : goal.invariant-loop-self
invariant-loop-self l = back_to l.start (store_in l.self) ≡ back_to l.start (store_in l.initial.self)

abbrev pub decreases-loop-self : goal.decreases-loop-self
decreases-loop-self l = length l.self.log.items
