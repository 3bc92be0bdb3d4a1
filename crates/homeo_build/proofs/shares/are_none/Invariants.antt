use Rattle.std.proofs.Common.{◌≡◌, ℕ, List, map, take, sum, pos}
use Rattle.homeo_build.proofs.shares.are_none.Given as goal

abbrev pub invariant-loop-share : goal.invariant-loop-share
invariant-loop-share l = (qs : List ℕ) → l.shares ≡ map pos qs → sum (take l.share-index qs) ≡ 0
