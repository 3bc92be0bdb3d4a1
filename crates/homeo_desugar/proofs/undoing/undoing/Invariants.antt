-- What is made so far and what is left save all objects, and set them again.
use Rattle.std.proofs.Common.{◌≡◌, suc, map, drop, pos}
use Rattle.homeo_syntax.specs.Low.{MoreCommand, NoCommand}
use Rattle.homeo_syntax.specs.LowView.{low_commands, plain_lcommand}
use Rattle.homeo_meaning.specs.LForm.{both, set_flag, saves, restores}
use Rattle.homeo_desugar.proofs.undoing.undoing.Given as goal

abbrev pub invariant-loop-object : goal.invariant-loop-object
invariant-loop-object l = record {
  saved : both (low_commands (map plain_lcommand l.all.items)) (saves (suc l.temp) (drop l.object-index l.saved) NoCommand) ≡ MoreCommand (set_flag (pos 0)) (saves 1 l.saved NoCommand);
  restored : both (low_commands (map plain_lcommand l.restores.items)) (restores (suc l.temp) (drop l.object-index l.saved)) ≡ restores 1 l.saved;
}
