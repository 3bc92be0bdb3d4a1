-- They are sorted, and each stays once.
use Rattle.std.proofs.Common.{◌==◌, sym, ap, ◌∙◌}
use Rattle.std.proofs.lemmas.List.Filters.{dedup_is}
use Rattle.std.proofs.lemmas.List.Sorted.{list_any-IsPermutation}
use Rattle.std.proofs.lemmas.Map.Keys.{IsStrictlyIncreasing-dedup, sorted_from_strictly_increasing}
use Rattle.homeo_outline.specs.Numbers.{has}
use Rattle.homeo_effect.proofs.RisingNumbers.{kept}
use Rattle.homeo_effect.proofs.uses.sorted.Goals as goal

pub returns-clause-rising : goal.returns-clause-rising
returns-clause-rising c =
    rw (dedup_is _ _ _ c.dedup.ensures.filtered) (sorted_from_strictly_increasing _ (IsStrictlyIncreasing-dedup _ c.in_ok-sort.ensures.sorted))

pub returns-clause-all : goal.returns-clause-all
returns-clause-all c n =
    ap (has n) (dedup_is _ _ _ c.dedup.ensures.filtered) ∙ kept n c.sort.new.self.items
    ∙ sym (list_any-IsPermutation (λ m. n == m) c.args.numbers.items c.sort.new.self.items c.in_ok-sort.ensures.permutation)
