-- The outputs so far were told.
use Rattle.std.proofs.Common.{◌≡◌, ◌++◌}
use Rattle.homeo_process.specs.Driven.{lines_of}
use Rattle.homeo_process.proofs.voice.Voice.tell_all.Given as goal

abbrev pub invariant-loop-output : goal.invariant-loop-output
invariant-loop-output l = l.out.items ≡ l.initial.out.items ++ lines_of l.self l.yielded
