use Rattle.std.proofs.Common.{◌≡◌, drop}
use Rattle.homeo_reader.specs.Lines.{is_end}
use Rattle.homeo_frames.proofs.line.is_end.Given as goal

abbrev pub invariant-loop-at : goal.invariant-loop-at
invariant-loop-at l = is_end l.line ≡ is_end (drop l.at l.line)
