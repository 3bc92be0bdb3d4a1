use Rattle.std.proofs.Common.{◌≡◌, ◌+◌, ◌≤◌, length, take}
use Rattle.homeo_site.proofs.lists.copy_prints.Given as goal

abbrev pub invariant-loop-number : goal.invariant-loop-number
invariant-loop-number l = record {
  items : l.copy.items ≡ take l.number-index l.prints;
  spare : length l.prints ≤ l.copy.spare + l.number-index;
}
