-- The command stands behind those that were there.
use Rattle.std.proofs.Common.{map, ap, ◌∙◌}
use Rattle.homeo_syntax.specs.LowView.{low_commands, plain_lcommand}
use Rattle.homeo_desugar.specs.inner.Key.{definitions}
use Rattle.homeo_desugar.proofs.Makings.{made_push}
use Rattle.homeo_desugar.proofs.making.Making.push.Goals as goal

pub returns-clause-pushed : goal.returns-clause-pushed
unfolding definitions
returns-clause-pushed c =
    ap (λ l. low_commands (map plain_lcommand l.items)) c.in_ok-push.ensures.ok ∙ made_push c.args.self.now.commands.items c.args.command
