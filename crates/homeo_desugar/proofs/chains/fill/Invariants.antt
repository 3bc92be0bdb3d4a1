-- The writes so far and those of the targets that are left are all.
use Rattle.std.proofs.Common.{◌≡◌, map, drop}
use Rattle.homeo_syntax.specs.Low.{Commands}
use Rattle.homeo_syntax.specs.LowView.{low_commands, plain_lcommand}
use Rattle.homeo_meaning.specs.LForm.{both, field_writes}
use Rattle.homeo_desugar.specs.inner.Made.{plain_target}
use Rattle.homeo_context.specs.Slots.{plain_slot}
use Rattle.homeo_desugar.proofs.chains.fill.Given as goal

abbrev pub invariant-loop-target : goal.invariant-loop-target
invariant-loop-target l =
    (more : Commands) → both (low_commands (map plain_lcommand l.commands.items)) (field_writes (plain_slot l.slot) (map plain_target (drop l.target-index l.targets)) more) ≡ field_writes (plain_slot l.slot) (map plain_target l.targets) more
