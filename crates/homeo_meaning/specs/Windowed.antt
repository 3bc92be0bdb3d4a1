-- Tables that keep the items of a stretch of places.
use Rattle.std.specs.Prelude.{ℕ, ◌-◌, nat_lt, if◌then◌else◌, List, slice_index_or}

-- what contracts see of a window: the first place that it keeps, and the items from there on
pub record Windowed (T : Type 0) : Type 0 where
  pub first : ℕ
  pub items : List T

-- the item at a place: below the first and past the end the absent one
abbrev pub item_at : {T : Type 0} → Windowed T → ℕ → T → T
item_at w n absent = if nat_lt n w.first then absent else slice_index_or w.items (n - w.first) absent
