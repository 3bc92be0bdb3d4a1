use Rattle.std.proofs.Common.{◌≡◌, take}
use Rattle.homeo_site.specs.inner.Effects.{objects_of}
use Rattle.homeo_site.proofs.effects.objects.Given as goal

abbrev pub invariant-loop-write : goal.invariant-loop-write
invariant-loop-write l = l.objects.items ≡ objects_of (take l.write-index l.writes)
