-- The loop of `product_within`.
use Rattle.std.proofs.Common.{◌≡◌, ◌≤◌, take}
use Rattle.homeo_joint.specs.Counts.{product_of}
use Rattle.homeo_joint.proofs.size.product_within.Given as goal

abbrev pub invariant-loop-table : goal.invariant-loop-table
invariant-loop-table l = record {
  product : l.product ≡ product_of (take l.table l.counts);
  within : l.product ≤ 1024;
}
