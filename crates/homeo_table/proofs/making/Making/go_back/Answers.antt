-- The fronts of tests and commands.
use Rattle.std.proofs.Common.{map, refl, sym, ap, ◌∙◌}
use Rattle.std.proofs.lemmas.List.{take-map}
use Rattle.homeo_syntax.specs.LowView.{plain_ltest, plain_lcommand}
use Rattle.homeo_table.specs.inner.Makings.{completed}
use Rattle.homeo_table.proofs.Makings.{row-same}
use Rattle.homeo_table.proofs.making.Making.go_back.Goals as goal

pub returns-clause-tests : goal.returns-clause-tests
returns-clause-tests c = ap (map plain_ltest) c.truncate.ensures.items ∙ sym (take-map plain_ltest c.args.mark.tests c.args.self.now.tests.items)

pub returns-clause-commands : goal.returns-clause-commands
returns-clause-commands c =
    ap (map (λ c. plain_lcommand c.now)) c.truncate-2.ensures.items ∙ sym (take-map (λ c. plain_lcommand c.now) c.args.mark.commands c.args.self.now.commands.items)

pub returns-clause-row : goal.returns-clause-row
unfolding completed
returns-clause-row c = row-same _ _ _ _ _ _ (returns-clause-tests c) (returns-clause-commands c) refl
