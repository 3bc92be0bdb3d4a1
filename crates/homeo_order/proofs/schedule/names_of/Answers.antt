use Rattle.std.proofs.lemmas.Grind.{common_steps}
use Rattle.std.proofs.Common.{arith}
use Rattle.homeo_syntax.proofs.SourceViews.{workload_views}
use Rattle.homeo_order.proofs.schedule.names_of.Goals as goal

pub loop-client-preserved : goal.loop-client-preserved
loop-client-preserved c = grind (arith, common_steps, workload_views)
