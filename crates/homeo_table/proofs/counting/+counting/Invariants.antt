-- The product so far times the rows of the commands that are left is the whole product.
use Rattle.std.proofs.Common.{◌≡◌, ◌*◌, drop}
use Rattle.homeo_table.proofs.RowCounting.{rows_in}
use Rattle.homeo_table.proofs.counting.+counting.Given as goal

abbrev pub invariant-row_product-loop-c : goal.invariant-row_product-loop-c
invariant-row_product-loop-c l = l.product * rows_in (drop l.c-index l.cs) ≡ rows_in l.cs
