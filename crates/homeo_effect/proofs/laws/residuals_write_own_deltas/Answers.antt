use Rattle.homeo_effect.proofs.OwnWrites.{table_writes_own, walk_writes_own}
use Rattle.homeo_effect.proofs.laws.residuals_write_own_deltas.Goals as goal

pub returns-clause-table : goal.returns-clause-table
returns-clause-table _ k i c w = table_writes_own k i c w

pub returns-clause-walk : goal.returns-clause-walk
returns-clause-walk _ k i c s w = walk_writes_own k i c s w
