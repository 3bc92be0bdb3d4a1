use Rattle.homeo_plan.proofs.RowCounts.{length_table, rows_shift, length_shifted}
use Rattle.homeo_plan.proofs.laws.tables_have_so_many_rows.Goals as goal

pub returns-clause-given : goal.returns-clause-given
returns-clause-given c = length_table

pub returns-clause-transformed : goal.returns-clause-transformed
returns-clause-transformed c = rows_shift

pub returns-clause-planned : goal.returns-clause-planned
returns-clause-planned c = length_shifted
