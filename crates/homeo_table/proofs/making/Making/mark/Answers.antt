-- All tests and commands so far are marked.
use Rattle.std.proofs.Common.{take, sym, ap, ◌∙◌}
use Rattle.std.proofs.lemmas.List.{length-map}
use Rattle.homeo_lemmas.proofs.Lists.{take_whole}
use Rattle.homeo_syntax.specs.LowView.{plain_ltest, plain_lcommand}
use Rattle.homeo_table.specs.inner.Partings.{tests_of, commands_of}
use Rattle.homeo_table.specs.inner.Makings.{completed}
use Rattle.homeo_table.proofs.Makings.{row-same}
use Rattle.homeo_table.proofs.making.Making.mark.Goals as goal

pub returns-clause-tests : goal.returns-clause-tests
returns-clause-tests c = c.len.ensures ∙ c.args.self.now.tests.ok.0 ∙ sym (length-map c.args.self.now.tests.items plain_ltest)

pub returns-clause-commands : goal.returns-clause-commands
returns-clause-commands c =
    c.len-2.ensures ∙ c.args.self.now.commands.ok.0 ∙ sym (length-map c.args.self.now.commands.items (λ c. plain_lcommand c.now))

pub returns-clause-row : goal.returns-clause-row
unfolding completed
returns-clause-row c =
    let ts = tests_of c.args.self.now in
    let cs = commands_of c.args.self.now in
    row-same _ ts _ cs _ _ (ap (λ n. take n ts) (returns-clause-tests c) ∙ take_whole ts) (ap (λ n. take n cs) (returns-clause-commands c) ∙ take_whole cs)
    c.in_ok-copy.ensures
