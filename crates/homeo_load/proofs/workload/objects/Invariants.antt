-- As many as so far.
use Rattle.std.proofs.Common.{◌≡◌, map}
use Rattle.std.specs.List.{range_with_len}
use Rattle.homeo_load.specs.Load.{load_object}
use Rattle.homeo_load.proofs.workload.objects.Given as goal

abbrev pub invariant-loop-i : goal.invariant-loop-i
invariant-loop-i l = l.list.items ≡ map load_object (range_with_len 0 l.i)
