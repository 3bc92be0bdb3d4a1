use Rattle.std.proofs.Common.{◌≡◌, replicate}
use Rattle.homeo_notes.proofs.blank.zeros.Given as goal

abbrev pub invariant-loop-i : goal.invariant-loop-i
invariant-loop-i l = l.words.items ≡ replicate l._i 0
