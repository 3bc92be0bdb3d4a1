-- No client so far has a call left.
use Rattle.std.proofs.Common.{◌≡◌, false}
use Rattle.std.specs.List.{range_with_len, list_any}
use Rattle.homeo_syntax.specs.SourceView.{plain_workload}
use Rattle.homeo_wire.specs.Drive.{lacks}
use Rattle.homeo_wire.proofs.driver.has_left.Given as goal

abbrev pub invariant-loop-client : goal.invariant-loop-client
invariant-loop-client l = list_any (lacks (plain_workload l.wire.work) l.wire.world) (range_with_len 0 l.client) ≡ false
