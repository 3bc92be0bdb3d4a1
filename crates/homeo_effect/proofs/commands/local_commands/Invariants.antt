-- The commands so far, at the site.
use Rattle.std.proofs.Common.{◌≡◌, map, take}
use Rattle.homeo_syntax.specs.LowView.{plain_lcommand}
use Rattle.homeo_meaning.specs.Serial.{values_of}
use Rattle.homeo_effect.specs.Localized.{local_command}
use Rattle.homeo_effect.proofs.commands.local_commands.Given as goal

abbrev pub invariant-loop-c : goal.invariant-loop-c
invariant-loop-c l = map plain_lcommand l.local.items ≡ map (local_command (values_of l.base) l.site) (map plain_lcommand (take l.c-index l.cs))
