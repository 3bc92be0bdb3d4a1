-- The vectors so far are lists.
use Rattle.std.proofs.Common.{◌≡◌, map}
use Rattle.homeo_split.proofs.runs.listed_all.Given as goal

abbrev pub invariant-loop-vector : goal.invariant-loop-vector
invariant-loop-vector l = map (λ d. d.items) l.lists.items ≡ map (λ v. v.items) l.yielded
