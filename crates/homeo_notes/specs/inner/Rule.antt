-- The rule of a board: what holds of its words and of the views of all its seats, before and after each atomic step (this
-- project's rule).
use Rattle.std.specs.Prelude.{◌≡◌, ℕ, ◌<◌, List, [], length, slice_index, Some, None}
use mathlib.Core.List.{IsPrefix}
use mathlib.Core.Option.{some}
use lib.ListN.{get_elem?, get_or}
use Rattle.atomic_table.specs.Table.{State}
use Rattle.homeo_notes.specs.declared.rule.View.{View}
use Rattle.homeo_notes.specs.Lines.{Entries}

-- the view owns line i, whose list is xs
abbrev pub view_owns : View → ℕ → Entries → Type 0
view_owns v i xs = get_or v.owned i None ≡ Some xs

-- the view of seat `by` fits the lists and the owners of the lines: it owns what is its own, with the line's list, and what it
-- has seen or was told of a line is a prefix of the line's list
pub record Fits (lists : ℕ → Entries) (owner : ℕ → ℕ) (by : ℕ) (v : View) : Type 0 where
  pub owns : (i : ℕ) (xs : Entries) → view_owns v i xs → (owner i ≡ by) × (xs ≡ lists i)
  pub seen : (i : ℕ) → IsPrefix (get_or v.seen i []) (lists i)
  pub told : (i : ℕ) → IsPrefix (get_or v.told i []) (lists i)

-- the owner of line i owns it, with its list
abbrev pub Owned : List View → (ℕ → Entries) → (ℕ → ℕ) → ℕ → Type 0
Owned views lists owner i = (v : View) × (get_elem? views (owner i) ≡ some v) × view_owns v i (lists i)

-- there are lists and owners of the lines so that each line has one owner, its word is the length of its list, and whatever a
-- view has seen of a line is a prefix of the line's list
pub record Kept (lines : ℕ) (s : State ℕ View) : Type 0 where
  pub lists : ℕ → Entries
  pub owner : ℕ → ℕ
  pub count : length s.words ≡ lines
  pub words : (i : ℕ) → i < lines → slice_index s.words i ≡ length (lists i)
  pub views : (by : ℕ) (v : View) → get_elem? s.views by ≡ some v → Fits lists owner by v
  pub owned : (i : ℕ) → i < lines → Owned s.views lists owner i
