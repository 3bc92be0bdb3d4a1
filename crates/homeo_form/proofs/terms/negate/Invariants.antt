-- The signs of the terms before the place are turned.
use Rattle.std.proofs.Common.{◌≡◌, ◌++◌, map, take, drop}
use Rattle.homeo_form.proofs.Adding.{turned}
use Rattle.homeo_form.proofs.terms.negate.Given as goal

abbrev pub invariant-loop-place : goal.invariant-loop-place
invariant-loop-place l = l.terms.items ≡ map turned (take l.place l.initial.terms.items) ++ drop l.place l.initial.terms.items
