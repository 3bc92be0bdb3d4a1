-- The commands from the place on are pushed.
use Rattle.std.proofs.Common.{◌≡◌, ◌≤◌, ◌++◌, map, reverse, drop, length}
use Rattle.homeo_syntax.specs.LowView.{plain_lcommand}
use Rattle.homeo_table.proofs.branches.push_all.Given as goal

abbrev pub invariant-loop-place : goal.invariant-loop-place
invariant-loop-place l = record {
  within : l.place ≤ length l.commands;
  pushed :
      map (λ c. plain_lcommand c.now) l.left.items ≡
      map (λ c. plain_lcommand c.now) l.initial.left.items ++ reverse (map plain_lcommand (drop l.place l.commands));
}

abbrev pub decreases-loop-place : goal.decreases-loop-place
decreases-loop-place l = l.place
