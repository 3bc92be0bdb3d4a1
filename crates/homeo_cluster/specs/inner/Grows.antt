-- What happens to a holder: its knowledge rises, and the list of one line may grow.
use Rattle.std.specs.Prelude.{◌≡◌, ℕ, [], ◌∷◌, ◌++◌, Some, None}
use Rattle.homeo_notes.specs.Lines.{Held, Entry, put, list_at, seen_at, HasSeen}

-- the holder owns the same lists, and has seen of each line at least what it had seen
pub record Rose (h h' : Held) : Type 0 where
  pub owned : h'.owned ≡ h.owned
  pub seen : (i : ℕ) → HasSeen h' i (seen_at h i)

-- one entry more stands in the list of the line, and the holder has seen of each line at least what it had seen
pub record Grew (h h' : Held) (line : ℕ) (e : Entry) : Type 0 where
  pub owned : h'.owned ≡ put None h.owned line (Some (list_at h line ++ e ∷ []))
  pub seen : (i : ℕ) → HasSeen h' i (seen_at h i)
