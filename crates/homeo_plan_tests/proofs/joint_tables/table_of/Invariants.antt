use Rattle.std.proofs.Common.{◌≡◌, vec_len}
use Rattle.homeo_plan_tests.proofs.joint_tables.table_of.Given as goal

abbrev pub invariant-loop-row : goal.invariant-loop-row
invariant-loop-row g l = vec_len l.table ≡ l._row
