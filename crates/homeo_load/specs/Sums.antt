-- What a load adds to each object.
use Rattle.std.specs.Prelude.{ℕ, ◌==◌, cond, ℤ, pos, List, map, sum_by}
use Rattle.homeo_load.specs.Key.{definitions}
use Rattle.homeo_load.specs.Additions.{Addition}
use Rattle.homeo_load.specs.Load.{eight}

-- what an addition adds to object i
abbrev pub added_to : ℕ → Addition → ℕ
added_to i a = cond (a.object == i) a.number 0

-- for each object the sum of the numbers added to it
abbrev pub sums : List Addition → List ℤ
unfolding definitions
sums all = map (λ i. pos (sum_by (added_to i) all)) eight
