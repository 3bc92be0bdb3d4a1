-- Nothing is in front.
use Rattle.std.proofs.Common.{map, ap}
use Rattle.homeo_syntax.specs.LowView.{plain_ltest, plain_lcommand}
use Rattle.homeo_table.specs.inner.Makings.{completed}
use Rattle.homeo_table.proofs.Makings.{row-new}
use Rattle.homeo_table.proofs.making.Making.new.Goals as goal

pub returns-clause-row : goal.returns-clause-row
unfolding completed
returns-clause-row c =
    row-new _ _ _ (ap (map plain_ltest) c.new.ensures.items) (ap (map (λ c. plain_lcommand c.now)) c.new-2.ensures.items) c.new-3.ensures
