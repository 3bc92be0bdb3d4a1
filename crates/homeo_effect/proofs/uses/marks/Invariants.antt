-- The numbers so far are marked.
use Rattle.std.proofs.Common.{◌≡◌, ℕ, false, length, get_or, take}
use Rattle.homeo_outline.specs.Numbers.{has}
use Rattle.homeo_effect.proofs.uses.marks.Given as goal

abbrev pub invariant-loop-number : goal.invariant-loop-number
invariant-loop-number l =
    record {
      count : length l.marks.items ≡ l.count;
      set : (n : ℕ) → get_or l.marks.items n false ≡ has n (take l.number-index l.numbers);
    }
