use Rattle.std.proofs.Common.{◌≡◌, ◌≤◌, ◌<◌, ◌^◌, vec_len}
use Rattle.std.specs.List.{All}
use Rattle.homeo_plan_tests.proofs.joint_tables.tables_of.Given as goal

abbrev pub invariant-loop-table : goal.invariant-loop-table
invariant-loop-table g l = record {
  count : vec_len l.tables ≡ l._table;
  some : All (λ t. 1 ≤ vec_len t) l.tables.items;
  counted : All (λ t. vec_len t < 2 ^ 32) l.tables.items;
}
