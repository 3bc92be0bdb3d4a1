-- What is kept so far and what is left is all.
use Rattle.std.proofs.Common.{◌≡◌, ◌++◌, map, drop}
use Rattle.homeo_size.specs.inner.Store.{kept_in}
use Rattle.homeo_size.specs.inner.Tables.{sizes_in}
use Rattle.homeo_size.proofs.extents.Extents.since.Given as goal

abbrev pub invariant-loop-index : goal.invariant-loop-index
invariant-loop-index l =
    l.changed.items ++ map (λ k. kept_in (sizes_in l.self) k.entry) (drop l.index l.self.log.items) ≡ map (λ k. kept_in (sizes_in l.self) k.entry) (drop l.start l.self.log.items)
