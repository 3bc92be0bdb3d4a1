-- The loop of `joint_size`.
use Rattle.std.proofs.Common.{◌≡◌, ◌≤◌, take}
use Rattle.homeo_joint.specs.Counts.{product_of}
use Rattle.homeo_whole_tables.specs.Tables.{row_counts}
use Rattle.homeo_whole_tables.proofs.joining.joint_size.Given as goal

abbrev pub invariant-loop-table : goal.invariant-loop-table
invariant-loop-table l = record {
  product : l.product ≡ product_of (take l.table (row_counts l.tables));
  within : l.product ≤ 1024;
}
