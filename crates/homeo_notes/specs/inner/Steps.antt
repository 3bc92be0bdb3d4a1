-- What each kind of atomic step at a board tells: v is the seat's view before it, with its slots, and w after it.
use Rattle.std.specs.Prelude.{◌≡◌, ℕ, not, [], ◌∷◌, ◌++◌, Some, None}
use mathlib.Core.List.{IsPrefix}
use lib.ListN.{get_or}
use Rattle.atomic_table.specs.Table.{Step, Me}
use Rattle.homeo_notes.specs.declared.rule.View.{View}
use Rattle.homeo_notes.specs.Lines.{Entry, Entries, is_within, put, pick, longest, or_empty, all_or_empty}
use Rattle.homeo_notes.specs.inner.Rule.{view_owns}

-- an entry was appended to the list of an owned line
abbrev pub Adds : Entry → Step ℕ → Me ℕ View → ℕ → Me ℕ View → Type 0
Adds e s v n w = (w.0 ≡ record v.0 { owned = put None v.0.owned s.word (Some (or_empty (get_or v.0.owned s.word None) ++ e ∷ [])) }) × (w.1 ≡ v.1)

-- what was seen of an owned line is a prefix of its list. Nothing changed
abbrev pub Looks : Step ℕ → Me ℕ View → ℕ → Me ℕ View → Type 0
Looks s v n w = (w ≡ v) × ((i : ℕ) (xs : Entries) → view_owns v.0 i xs → IsPrefix (get_or v.0.seen i []) xs)

-- what was seen and what was told were put together: the longer of the two on each line, of which both are prefixes
abbrev pub Learns : Step ℕ → Me ℕ View → ℕ → Me ℕ View → Type 0
Learns s v n w =
    (w.0 ≡ record v.0 { seen = longest v.0.seen v.0.told; told = [] })
    × (w.1 ≡ v.1)
    × ((i : ℕ) → IsPrefix (get_or v.0.seen i []) (get_or (longest v.0.seen v.0.told) i []))
    × ((i : ℕ) → IsPrefix (get_or v.0.told i []) (get_or (longest v.0.seen v.0.told) i []))

-- the view with the lines from first to below end marked
abbrev pub marked : ℕ → ℕ → View → View
marked first end v = record v { first = first; end = end }

-- the lines that are dealt next were marked
abbrev pub Marks : ℕ → ℕ → Step ℕ → Me ℕ View → ℕ → Me ℕ View → Type 0
Marks first end s v n w = (w.0 ≡ marked first end v.0) × (w.1 ≡ v.1)

-- the view without the marked lines
abbrev pub stays : View → View
stays v = record v { owned = pick None (λ i. not (is_within v.first v.end i)) 0 v.owned }

-- the view that the marked lines are dealt to
abbrev pub dealt : View → View
dealt v = record { owned = pick None (is_within v.first v.end) 0 v.owned; seen = v.seen; told = []; first = 0; end = 0 }

-- what a note tells: what was seen, and what is owned
abbrev pub noted : View → View
noted v = record { owned = []; seen = longest v.seen (all_or_empty v.owned); told = []; first = 0; end = 0 }

-- the view v when the note w was joined
abbrev pub told_by : View → View → View
told_by v w = record v { told = w.seen }

-- what is left of a note that was joined
abbrev pub spent : View
spent = record { owned = []; seen = []; told = []; first = 0; end = 0 }
