use Rattle.std.proofs.Common.{◌≡◌, take}
use Rattle.homeo_desk.proofs.fits.are_first.Given as goal

abbrev pub invariant-loop-i : goal.invariant-loop-i
invariant-loop-i l = take l.i l.queue ≡ take l.i l.calls
