-- The loop of `naturals`.
use Rattle.std.proofs.Common.{◌≡◌, map, take}
use Rattle.homeo_meaning.specs.Schema.{nat_of}
use Rattle.homeo_config.proofs.split.naturals.Given as goal

abbrev pub invariant-loop-share : goal.invariant-loop-share
invariant-loop-share l = l.own.items ≡ map nat_of (take l.share-index l.shares)
