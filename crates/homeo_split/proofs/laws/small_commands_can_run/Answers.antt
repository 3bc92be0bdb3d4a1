use Rattle.homeo_split.proofs.SmallCommands.{small_law}
use Rattle.homeo_split.proofs.laws.small_commands_can_run.Goals as goal

pub returns : goal.returns
returns c = small_law
