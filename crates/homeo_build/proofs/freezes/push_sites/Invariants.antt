-- The deltas so far, and those of the sites that are left.
use Rattle.std.proofs.Common.{◌≡◌, ◌++◌, ◌-◌}
use Rattle.homeo_build.specs.inner.Frozen.{frozen_sites}
use Rattle.homeo_build.proofs.freezes.push_sites.Given as goal

abbrev pub invariant-loop-site : goal.invariant-loop-site
invariant-loop-site l =
    l.deltas.items ++ frozen_sites l.site (l.sites - l.site) l.object l.frozen ≡ l.fn.deltas.items ++ frozen_sites 0 l.sites l.object l.frozen
