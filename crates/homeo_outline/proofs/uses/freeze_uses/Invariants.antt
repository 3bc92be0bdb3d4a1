-- The freezes so far.
use Rattle.std.proofs.Common.{◌≡◌, ◌+◌, map, take}
use Rattle.homeo_outline.specs.inner.Uses.{KeepsFreezes}
use Rattle.homeo_outline.proofs.uses.freeze_uses.Given as goal

abbrev pub invariant-loop-freeze : goal.invariant-loop-freeze
invariant-loop-freeze l =
    record {
      number : l.number ≡ l.first + l.freeze-index;
      keeps : KeepsFreezes l.first (take l.freeze-index l.freezes) (map (λ v. v.items) l.uses.items);
    }
