-- The marks so far are read: their numbers stand before those of the marks that are left, and there is room for all.
use Rattle.std.proofs.Common.{◌≡◌, ◌≤◌, ◌++◌, length, take, drop}
use Rattle.homeo_effect.specs.inner.Uses.{marked_from}
use Rattle.homeo_effect.proofs.uses.marked.Given as goal

abbrev pub invariant-loop-number : goal.invariant-loop-number
invariant-loop-number l =
    record {
      read : take l.place l.numbers.items ++ marked_from l.number (drop l.number l.marks) ≡ marked_from 0 l.marks;
      place : l.place ≤ length l.numbers.items;
      room : length (marked_from 0 l.marks) ≤ length l.numbers.items;
    }
