-- The expressions so far are the same.
use Rattle.std.proofs.Common.{◌≡◌, map, take}
use Rattle.homeo_syntax.specs.LowView.{plain_lexpr}
use Rattle.homeo_build.proofs.steady.+expressions.Given as goal

abbrev pub invariant-are_same-loop-i : goal.invariant-are_same-loop-i
invariant-are_same-loop-i l = map plain_lexpr (take l.i l.es) ≡ map plain_lexpr (take l.i l.others)
