-- Copies of the tests and the commands.
use Rattle.std.proofs.Common.{map, ap, ap₂, ◌∙◌}
use Rattle.homeo_syntax.specs.LowView.{low_tests, low_commands, plain_ltest, plain_lcommand}
use Rattle.homeo_syntax.proofs.LowViews.{low_conjunction_of}
use Rattle.homeo_table.proofs.Makings.{row_of}
use Rattle.homeo_whole_tables.proofs.tables.copied_row.Goals as goal

pub returns : goal.returns
returns c =
    ap₂ row_of
    (low_conjunction_of c.from_vec.result ∙ ap (λ l. low_tests (map plain_ltest l.items)) c.from_vec.ensures ∙ ap low_tests c.in_ok-tests.ensures ∙ c.formula.ensures)
    (ap (λ l. low_commands (map plain_lcommand l.items)) c.from_vec-2.ensures ∙ ap low_commands c.in_ok-commands.ensures ∙ c.residual.ensures)
