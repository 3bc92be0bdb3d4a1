use Rattle.std.proofs.Common.{arith}
use Rattle.homeo_report.proofs.Lookups.{numbered_at}
use Rattle.homeo_report.proofs.calls.call_numbered.Goals as goal

pub returns-else-seq-eq0 : goal.returns-else-seq-eq0
returns-else-seq-eq0 c = numbered_at c.args.calls.now c.args.seq _ (omega arith) c.at_place.ensures
