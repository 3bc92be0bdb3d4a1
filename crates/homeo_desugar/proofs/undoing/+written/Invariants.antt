-- What is left adds the same to what was found.
use Rattle.std.proofs.Common.{◌≡◌, map, drop}
use Rattle.homeo_syntax.specs.LowView.{low_commands, plain_lcommand}
use Rattle.homeo_meaning.specs.LowWrites.{all_written}
use Rattle.homeo_desugar.proofs.undoing.+written.Given as goal

abbrev pub invariant-all_written-loop-c : goal.invariant-all_written-loop-c
invariant-all_written-loop-c l =
    all_written (low_commands (map plain_lcommand (drop l.c-index l.cs))) l.objects.keys ≡ all_written (low_commands (map plain_lcommand l.cs)) l.initial.objects.keys
