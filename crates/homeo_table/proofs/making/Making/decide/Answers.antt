-- The condition's tests, or its negation.
use Rattle.std.proofs.Common.{map, sym, ap, ◌∙◌}
use Rattle.homeo_syntax.specs.Low.{Not}
use Rattle.homeo_syntax.specs.LowView.{plain_ltest}
use Rattle.homeo_syntax.proofs.LowViews.{low_Not, low_conjunction}
use Rattle.homeo_table.specs.inner.Makings.{completed}
use Rattle.homeo_table.proofs.Makings.{row-asked, row-fails}
use Rattle.homeo_table.proofs.making.Making.decide.Goals as goal

pub returns-in_ok-move_tests-clause-row : goal.returns-in_ok-move_tests-clause-row
unfolding completed
returns-in_ok-move_tests-clause-row c =
    row-asked _ _ (map plain_ltest c.in_ok-asked.asked.tests.items) _ _ _ c.in_ok-move_tests.ensures
    (sym (low_conjunction c.in_ok-asked.asked) ∙ c.in_ok-asked.ensures)

pub returns-in_ok-push-clause-row : goal.returns-in_ok-push-clause-row
unfolding completed
returns-in_ok-push-clause-row c =
    row-fails c.args.self.now.tests.items c.push.new.self.items _ _ _ _ c.in_ok-push.ensures.items
    (low_Not c.in_ok-asked.asked ∙ ap Not c.in_ok-asked.ensures)
