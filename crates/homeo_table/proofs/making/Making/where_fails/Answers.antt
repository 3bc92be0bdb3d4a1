-- One more test.
use Rattle.std.proofs.Common.{ap, ◌∙◌}
use Rattle.homeo_lemmas.proofs.Lists.{take_whole}
use Rattle.homeo_syntax.specs.Low.{Not}
use Rattle.homeo_syntax.specs.LowView.{plain_ltest}
use Rattle.homeo_syntax.proofs.LowViews.{low_Not}
use Rattle.homeo_table.specs.inner.Makings.{completed}
use Rattle.homeo_table.specs.inner.Partings.{commands_of}
use Rattle.homeo_table.proofs.Makings.{row-fails, begins-more}
use Rattle.homeo_table.proofs.making.Making.where_fails.Goals as goal

pub returns-clause-row : goal.returns-clause-row
unfolding completed
returns-clause-row c =
    row-fails c.args.self.now.tests.items c.push.new.self.items _ _ _ _ c.in_ok-push.ensures.items
    (low_Not c.in_ok-test.test ∙ ap Not c.in_ok-test.ensures)

pub returns-clause-begins : goal.returns-clause-begins
returns-clause-begins c = record {
  tests = begins-more plain_ltest c.args.self.now.tests.items c.push.new.self.items _ c.in_ok-push.ensures.items;
  commands = take_whole (commands_of c.args.self.now);
}
