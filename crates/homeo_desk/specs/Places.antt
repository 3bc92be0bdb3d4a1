-- Where calls stand that a site makes alone: in each round they are numbered from 0 (this project's rule).
use Rattle.std.specs.Prelude.{◌≡◌, ◌≤◌, ◌==◌, ◌+◌, ◌-◌, ◌^◌, ℕ, min, cond, List, [], ◌∷◌}
use Rattle.homeo_desk.specs.declared.output.Path.{Path}
use Rattle.homeo_desk.specs.declared.output.Path.TheVariants.{Local, Closing}
use Rattle.homeo_desk.specs.DeskView.{Reply}

-- how many it has made alone in a round, where it has made so many in this one, and none in a later one
abbrev pub made_in : (round made : ℕ) → ℕ → ℕ
made_in round made now = cond (round == now) made 0

-- a count, kept in a `u64`, after one more
abbrev pub one_more : ℕ → ℕ
one_more made = min (made + 1) (2 ^ 64 - 1)

-- a call that it makes alone has the place behind those that it has made so
abbrev pub IsPlaced : Path → ℕ → Type 0
IsPlaced (Local place) made = place ≡ made
IsPlaced (Closing broken) made = Unit {0}

abbrev pub counted : Path → ℕ → ℕ
counted (Local place) made = one_more made
counted (Closing broken) made = made

-- where it has made so many in a round, these are answered in that round and later ones, each at its place, and so many are then made in the
-- last one
abbrev pub ArePlaced : (round made : ℕ) → List Reply → (last count : ℕ) → Type 0
ArePlaced round made [] last count = (round ≤ last) × (count ≡ made_in round made last)
ArePlaced round made (r ∷ rs) last count =
    (round ≤ r.round) × IsPlaced r.path (made_in round made r.round) × ArePlaced r.round (counted r.path (made_in round made r.round)) rs last count
