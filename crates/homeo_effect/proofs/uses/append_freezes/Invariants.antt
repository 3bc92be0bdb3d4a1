-- Of the numbers so far those of the site are appended.
use Rattle.std.proofs.Common.{◌≡◌, ℕ, ◌&&◌, take}
use Rattle.std.specs.Prelude.{◌||◌}
use Rattle.homeo_outline.specs.Numbers.{has}
use Rattle.homeo_effect.proofs.SiteNumbers.{is_at_site}
use Rattle.homeo_effect.proofs.uses.append_freezes.Given as goal

abbrev pub invariant-loop-number : goal.invariant-loop-number
invariant-loop-number l =
    (n : ℕ) → has n l.numbers.items ≡ (has n l.fn.numbers.items || (has n (take l.number-index l.number-items) && is_at_site l.site l.outline n))
