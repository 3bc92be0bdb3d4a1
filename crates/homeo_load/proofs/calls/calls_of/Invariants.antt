-- The calls so far, and those that are left, are all.
use Rattle.std.proofs.Common.{◌≡◌, ◌-◌, ◌++◌, map}
use Rattle.homeo_syntax.specs.SourceView.{plain_call}
use Rattle.homeo_load.specs.Additions.{additions}
use Rattle.homeo_load.specs.Load.{load_call, dealt}
use Rattle.homeo_load.proofs.calls.calls_of.Given as goal

abbrev pub invariant-loop-k : goal.invariant-loop-k
invariant-loop-k l =
    map plain_call l.list.items ++ map load_call (dealt l.client l.k (additions l.draws.state (l.calls - l.k))) ≡ map load_call (dealt l.client 0 (additions l.start l.calls))
