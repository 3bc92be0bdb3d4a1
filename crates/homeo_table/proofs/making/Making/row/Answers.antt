-- The tests and the commands.
use Rattle.std.proofs.Common.{map, ap, ◌∙◌}
use Rattle.homeo_syntax.specs.LowView.{low_tests, low_commands, plain_lcommand}
use Rattle.homeo_substitution.specs.Bindings.{bound}
use Rattle.homeo_table.specs.inner.Partings.{tests_of, commands_of}
use Rattle.homeo_table.specs.inner.Makings.{completed}
use Rattle.homeo_table.proofs.Makings.{row_of, row-last}
use Rattle.homeo_table.proofs.making.Making.row.Goals as goal

pub returns : goal.returns
unfolding completed
returns c =
    c.row_of.ensures
    ∙ ap (λ cs. row_of (low_tests (tests_of c.args.self)) (low_commands cs)) (c.in_ok-commands.ensures ∙ ap (map (λ c. plain_lcommand c.now)) c.as_slice.ensures.value)
    ∙ row-last (tests_of c.args.self) (commands_of c.args.self) (bound c.args.self.bindings)
