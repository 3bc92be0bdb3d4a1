-- The numbers so far have marks.
use Rattle.std.proofs.Common.{◌<◌, ◌≤◌, ◌^◌, take}
use Rattle.std.specs.List.{All}
use Rattle.homeo_effect.proofs.uses.mark_count.Given as goal

abbrev pub invariant-loop-number : goal.invariant-loop-number
invariant-loop-number l =
    record {
      above : All (λ n. n < l.count) (take l.number-index l.numbers);
      small : l.count ≤ 2 ^ 32;
    }
