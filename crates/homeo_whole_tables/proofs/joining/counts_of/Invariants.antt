-- The tables so far are counted.
use Rattle.std.proofs.Common.{◌≡◌, take}
use Rattle.homeo_whole_tables.specs.Tables.{row_counts}
use Rattle.homeo_whole_tables.proofs.joining.counts_of.Given as goal

abbrev pub invariant-loop-rows : goal.invariant-loop-rows
invariant-loop-rows l = l.counts.items ≡ row_counts (take l.rows-index l.tables)
