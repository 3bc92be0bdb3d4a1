-- Each number lowers the lowest so far, or keeps it.
use Rattle.std.proofs.Common.{subst}
use Rattle.homeo_merge.specs.inner.Lowest.{IsLowest}
use Rattle.homeo_merge.proofs.Picking.{lowest_below, lowest_kept, lowest_first, lowest_lower}
use Rattle.homeo_merge.proofs.merge.or_lower.Goals as goal

pub returns-then-number-sites : goal.returns-then-number-sites
returns-then-number-sites c = λ choice low. lowest_below _ _ choice _ c.if-number-sites.true low

pub returns-then-number-lowest : goal.returns-then-number-lowest
returns-then-number-lowest c = λ choice low.
    lowest_lower _ _ c.in-Some.lowest choice c.if-number-sites.false c.if-number-lowest.true
    (subst (IsLowest c.args.sites choice) c.in-Some.is low)

pub returns-else-number-lowest : goal.returns-else-number-lowest
returns-else-number-lowest c = λ choice low.
    lowest_kept _ _ c.in-Some.lowest choice c.if-number-lowest.false (subst (IsLowest c.args.sites choice) c.in-Some.is low)

pub returns-in-None : goal.returns-in-None
returns-in-None c = λ choice low.
    lowest_first _ _ choice c.if-number-sites.false (subst (IsLowest c.args.sites choice) c.in-None.is low)
