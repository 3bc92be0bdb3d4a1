-- The orders in which the entries of a round may have been made.
use Rattle.std.specs.Prelude.{◌≡◌, ℕ, ◌==◌, cond, List, [], ◌∷◌, ◌++◌, map, length, count_by, take, drop, slice_index_or}
use Rattle.homeo_meaning.specs.declared.call.CallId.{CallId}
use Rattle.homeo_history.specs.Key.{definitions}
use Rattle.homeo_history.specs.History.{Entry}

-- the entries of a site, and none where there is no such site
abbrev pub segment_of : List (List Entry) → ℕ → List Entry
unfolding definitions
segment_of segments site = slice_index_or segments site []

-- a function with one value changed
abbrev pub put_at : {X : Type 0} → (ℕ → X) → ℕ → X → ℕ → X
put_at f i v j = cond (i == j) v (f j)

-- the entries that a choice of sites picks, those of each site in their own order
abbrev pub merge : (ℕ → List Entry) → List ℕ → List Entry
unfolding definitions
merge segments [] = []
merge segments (site ∷ choice) =
    take 1 (segments site) ++ merge (put_at segments site (drop 1 (segments site))) choice

abbrev pub merged : List (List Entry) → List ℕ → List Entry
unfolding definitions
merged segments choice = merge (segment_of segments) choice

-- the calls of those entries
abbrev pub interleave : List (List Entry) → List ℕ → List CallId
unfolding definitions
interleave segments choice = map (λ e. e.call) (merged segments choice)

-- each site stands in the choice as often as its segment is long, and no other number stands in it
abbrev pub FitsSegments : List (List Entry) → List ℕ → Type 0
unfolding definitions
FitsSegments segments choice =
    (site : ℕ) → count_by (λ i. site == i) choice ≡ length (segment_of segments site)
