-- The lowest number in a choice that is past the last site.
use Rattle.std.specs.Prelude.{◌≡◌, ℕ, ◌==◌, ◌<◌, ◌≤◌, List, count_by, Option, Some, None}
use Rattle.homeo_history.specs.Key.{definitions}

-- of as many sites: none where no number is past the last of them
abbrev pub IsLowest : ℕ → List ℕ → Option ℕ → Type 0
unfolding definitions
IsLowest sites choice None = (i : ℕ) → sites ≤ i → count_by (λ j. i == j) choice ≡ 0
IsLowest sites choice (Some n) =
    (sites ≤ n) × (1 ≤ count_by (λ j. n == j) choice) × ((i : ℕ) → sites ≤ i → i < n → count_by (λ j. i == j) choice ≡ 0)
