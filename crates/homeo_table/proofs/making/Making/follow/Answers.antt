-- One more command.
use Rattle.homeo_lemmas.proofs.Lists.{take_whole}
use Rattle.homeo_syntax.specs.LowView.{plain_lcommand}
use Rattle.homeo_table.specs.inner.Partings.{tests_of}
use Rattle.homeo_table.specs.inner.Makings.{completed}
use Rattle.homeo_table.proofs.Makings.{row-command, begins-more}
use Rattle.homeo_table.proofs.making.Making.follow.Goals as goal

pub returns-clause-row : goal.returns-clause-row
unfolding completed
returns-clause-row c = row-command _ c.args.self.now.commands.items c.push.new.self.items _ c.args.c c.in_ok-push.ensures.items

pub returns-clause-begins : goal.returns-clause-begins
returns-clause-begins c = record {
  tests = take_whole (tests_of c.args.self.now);
  commands = begins-more (λ c. plain_lcommand c.now) c.args.self.now.commands.items c.push.new.self.items _ c.in_ok-push.ensures.items;
}
