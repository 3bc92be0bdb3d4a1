-- Which holder a view is, and how a board begins (this project's rule).
use Rattle.std.specs.Prelude.{◌≡◌, ℕ, ◌<◌, [], replicate, Some}
use Rattle.atomic_table.specs.Table.{Me}
use Rattle.atomic_table.specs.Seated.{TableId}
use Rattle.homeo_notes.specs.declared.rule.View.{View}
use Rattle.homeo_notes.specs.Lines.{Held}

-- what a holder has by its view; what it was told and has not taken in yet is no part of it
abbrev pub held : View → Held
held v = record { owned = v.owned; seen = v.seen }

-- the view that a board of n lines begins with: it owns every line, and each list is empty
abbrev pub newcomer : ℕ → View
newcomer n = record { owned = replicate n (Some []); seen = []; told = []; first = 0; end = 0 }

-- a board that nobody has used: its key is the number of its lines, one at least, and its seat owns every line
pub record IsUnused (board : TableId) (key : ℕ) (seat : TableId) (me : Me ℕ View) : Type 0 where
  pub some : 0 < board.words
  pub lines : key ≡ board.words
  pub seated : seat ≡ board
  pub owner : me ≡ (newcomer board.words, [])
