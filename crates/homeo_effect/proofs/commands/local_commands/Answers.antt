-- The numbers of each command are small.
use Rattle.std.proofs.Common.{sym, subst}
use Rattle.std.proofs.lemmas.List.Elements.{All-get_or}
use Rattle.homeo_syntax.specs.LowView.{plain_lcommand}
use Rattle.homeo_meaning.specs.Serial.{values_of}
use Rattle.homeo_effect.specs.inner.Alone.{CommandFits}
use Rattle.homeo_effect.proofs.commands.local_commands.Goals as goal

pub local_command-requires : goal.local_command-requires
local_command-requires c =
    let b = values_of c.args.base.now in
    subst (λ d. CommandFits b c.args.site (plain_lcommand d)) (sym c.c-item.is)
    (All-get_or (λ d. CommandFits b c.args.site (plain_lcommand d)) c.args.cs.now c.loop-c.c-index _ c.loop-c-test.true c.requires)
