-- One more command, and what it sets.
use Rattle.homeo_lemmas.proofs.Lists.{take_whole}
use Rattle.homeo_syntax.specs.LowView.{plain_lcommand}
use Rattle.homeo_table.specs.inner.Partings.{tests_of}
use Rattle.homeo_table.specs.inner.Makings.{completed}
use Rattle.homeo_table.proofs.Makings.{row-set, begins-more}
use Rattle.homeo_table.proofs.making.Making.follow_set.Goals as goal

pub returns-clause-row : goal.returns-clause-row
unfolding completed
returns-clause-row c =
    row-set _ c.args.self.now.commands.items c.push.new.self.items _ _ c.args.c _ _ _ c.in_ok-push.ensures.items
    c.in_ok-bind.ensures c.in_ok-value.ensures

pub returns-clause-begins : goal.returns-clause-begins
returns-clause-begins c = record {
  tests = take_whole (tests_of c.args.self.now);
  commands = begins-more (λ c. plain_lcommand c.now) c.args.self.now.commands.items c.push.new.self.items _ c.in_ok-push.ensures.items;
}
