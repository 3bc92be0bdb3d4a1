-- The sum so far, and the sum of what is left; none so far is negative, and the sum is at most as large as so many words.
use Rattle.std.proofs.Common.{◌≡◌, ◌*◌, ◌^◌, drop, pos, ◌+ℤ◌, ◌≤ℤ◌, int_le}
use Rattle.std.specs.List.{list_all}
use Rattle.homeo_plan.specs.Config.{total}
use Rattle.homeo_verify.proofs.verifying.total.Given as goal

abbrev pub invariant-loop-bound : goal.invariant-loop-bound
invariant-loop-bound l = record {
  sum : l.sum +ℤ total (drop l.bound-index l.bounds) ≡ total l.bounds;
  natural : list_all (int_le (pos 0)) (drop l.bound-index l.bounds) ≡ list_all (int_le (pos 0)) l.bounds;
  low : pos 0 ≤ℤ l.sum;
  high : l.sum ≤ℤ pos (2 ^ 63 * l.bound-index);
}
