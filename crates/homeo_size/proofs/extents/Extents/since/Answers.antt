-- Nothing is left.
use Rattle.std.proofs.Common.{arith}
use Rattle.homeo_size.specs.inner.Key.{definitions}
use Rattle.homeo_size.specs.inner.Store.{kept_in}
use Rattle.homeo_size.specs.inner.Tables.{sizes_in}
use Rattle.homeo_size.proofs.Tables.{all_kept}
use Rattle.homeo_size.proofs.extents.Extents.since.Goals as goal

pub returns : goal.returns
unfolding definitions
returns c =
    all_kept (λ k. kept_in (sizes_in c.args.self.now) k.entry) c.loop-index.changed.items c.args.self.now.log.items c.loop-index.index c.args.start (omega arith) c.loop-index.invariant
