-- As many as so far.
use Rattle.std.proofs.Common.{◌≡◌, map}
use Rattle.std.specs.List.{range_with_len}
use Rattle.homeo_syntax.specs.SourceView.{plain_client}
use Rattle.homeo_load.specs.Additions.{additions}
use Rattle.homeo_load.specs.Load.{load_client}
use Rattle.homeo_load.proofs.workload.clients.Given as goal

abbrev pub invariant-loop-i : goal.invariant-loop-i
invariant-loop-i l = map plain_client l.list.items ≡ map (load_client (additions l.start l.calls)) (range_with_len 0 l.i)
