-- The objects of what the commands so far write.
use Rattle.std.proofs.Common.{◌≡◌, map, take}
use Rattle.homeo_syntax.specs.LowView.{low_commands, plain_lcommand}
use Rattle.homeo_effect.specs.Touched.{written}
use Rattle.homeo_effect.specs.inner.Uses.{objects_of}
use Rattle.homeo_effect.proofs.uses.written_objects.Given as goal

abbrev pub invariant-loop-c : goal.invariant-loop-c
invariant-loop-c l = l.objects.items ≡ objects_of (written (low_commands (map plain_lcommand (take l.c-index l.cs))))
