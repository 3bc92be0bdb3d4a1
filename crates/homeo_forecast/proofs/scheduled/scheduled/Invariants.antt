use Rattle.std.proofs.Common.{take}
use Rattle.homeo_syntax.specs.SourceView.{plain_workload}
use Rattle.homeo_forecast.proofs.Schedules.{HasCounted}
use Rattle.homeo_forecast.proofs.scheduled.scheduled.Given as goal

abbrev pub invariant-loop-name : goal.invariant-loop-name
invariant-loop-name l = HasCounted (plain_workload l.w) (take l.name-index l.name-items) l.calls.items l.made.items
