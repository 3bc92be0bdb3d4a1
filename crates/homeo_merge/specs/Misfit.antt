-- Choices that do not fit a round's segments.
use Rattle.std.specs.Prelude.{◌≡◌, ℕ, ◌==◌, ◌<◌, List, length, count_by}
use Rattle.homeo_history.specs.History.{Entry}
use Rattle.homeo_history.specs.Merge.{segment_of}

-- the choice has this site so often, and the site's segment is not as long; each lower site stands in it as often as its
-- segment is long
pub record IsMisfit (segments : List (List Entry)) (choice : List ℕ) (site chosen long : ℕ) : Type 0 where
  pub times : chosen ≡ count_by (λ i. site == i) choice
  pub entries : long ≡ length (segment_of segments site)
  pub differ : chosen ≡ long → ⊥
  pub lowest : (i : ℕ) → i < site → count_by (λ j. i == j) choice ≡ length (segment_of segments i)
