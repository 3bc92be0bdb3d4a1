-- What is left makes of the tables now what all makes of the tables at first.
use Rattle.std.proofs.Common.{◌≡◌, drop}
use Rattle.homeo_size.specs.inner.Store.{raised}
use Rattle.homeo_size.specs.inner.Tables.{store_in}
use Rattle.homeo_size.proofs.extents.Extents.raise_all.Given as goal

abbrev pub invariant-loop-k : goal.invariant-loop-k
invariant-loop-k l = raised (drop l.k-index l.kept) (store_in l.self) ≡ raised l.kept (store_in l.initial.self)
