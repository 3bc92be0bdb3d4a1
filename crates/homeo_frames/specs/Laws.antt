-- The laws of frames.
use Rattle.std.specs.Prelude.{◌≡◌, ℕ, List, ◌++◌}
use Rattle.homeo_frames.specs.Frames.{IsCut}

-- a stream is cut into frames in one way
abbrev pub OneCut : Type 0
OneCut =
    (bytes : List ℕ) (frames others : List (List ℕ)) (rest more : List ℕ) →
    IsCut bytes frames rest → IsCut bytes others more → (frames ≡ others) × (rest ≡ more)

-- every stream is cut
abbrev pub HasCut : Type 0
HasCut = (bytes : List ℕ) → (frames : List (List ℕ)) × (rest : List ℕ) × IsCut bytes frames rest

-- where more bytes come, the frames that end are those of what hadn't ended with these bytes behind it
abbrev pub CutsOn : Type 0
CutsOn =
    (bytes piece : List ℕ) (frames gained : List (List ℕ)) (rest more : List ℕ) →
    IsCut bytes frames rest → IsCut (rest ++ piece) gained more → IsCut (bytes ++ piece) (frames ++ gained) more
