-- What the commands of effects stand for, wherever their parts lie in memory.
use Rattle.std.specs.Prelude.{List, map}
use Rattle.homeo_syntax.specs.Low.{Commands}
use Rattle.homeo_syntax.specs.LowView.{low_commands, plain_lcommand}
use Rattle.homeo_syntax.specs.declared.low.LCommand.{LCommand}
use Rattle.homeo_effect.specs.declared.site_effects.SiteEffects.{SiteEffects}

-- commands, one after another
abbrev pub plain_all : List LCommand → Commands
plain_all cs = low_commands (map plain_lcommand cs)

abbrev pub plain_commands : SiteEffects → Commands
plain_commands e = plain_all e.commands.items
