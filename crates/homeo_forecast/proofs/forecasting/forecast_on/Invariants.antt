use Rattle.std.proofs.Common.{take}
use Rattle.homeo_syntax.specs.SourceView.{plain_workload}
use Rattle.homeo_forecast.specs.inner.Replays.{IsReplay}
use Rattle.homeo_forecast.proofs.forecasting.forecast_on.Given as goal

abbrev pub invariant-loop-kept : goal.invariant-loop-kept
invariant-loop-kept l = IsReplay (plain_workload l.c) l.plan.base.items (take l.kept l.calls) l.replay
