use Rattle.std.proofs.Common.{◌≡◌, map, take}
use Rattle.homeo_syntax.specs.LowView.{plain_lcommand}
use Rattle.homeo_plan.specs.Split.{shift}
use Rattle.homeo_delta.proofs.commands.+commands.Given as goal

abbrev pub invariant-shift_all-loop-c : goal.invariant-shift_all-loop-c
invariant-shift_all-loop-c l =
    map plain_lcommand l.shifted.items ≡ map (shift l.sites l.site) (map plain_lcommand (take l.c-index l.cs))
