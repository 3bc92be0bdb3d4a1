-- The rows that the branch and the partings have still to give stay.
use Rattle.std.proofs.Common.{◌≡◌, ◌++◌}
use Rattle.homeo_table.specs.inner.Branches.{left_of, rows_of, rows_behind, left_size, AreNested}
use Rattle.homeo_table.proofs.branches.Branch.follow.Given as goal

abbrev pub invariant-loop-c : goal.invariant-loop-c
invariant-loop-c l = record {
  nested : AreNested l.self.row l.partings.items;
  rows : rows_of l.self ++ rows_behind l.self.row l.partings.items ≡ rows_of l.initial.self ++ rows_behind l.initial.self.row l.initial.partings.items;
}

abbrev pub decreases-loop-c : goal.decreases-loop-c
decreases-loop-c l = left_size (left_of l.self)
