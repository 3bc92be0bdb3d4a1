-- Which places a split database has, and whether a command writes only there.
use Rattle.std.specs.Prelude.{ℕ, Bool, true, ◌&&◌, nat_lt, List, map, length, slice_index_or}
use Rattle.homeo_syntax.specs.declared.low.SplitName.{SplitName}
use Rattle.homeo_syntax.specs.declared.low.SplitName.TheVariants.{Whole, Base, Delta}
use Rattle.homeo_syntax.specs.Low.{Command, Commands, Skip, Assign, Write, Print, Seq, If, NoCommand, MoreCommand}
use Rattle.homeo_split.specs.Key.{definitions}
use Rattle.homeo_split.specs.declared.split.Split.{Split}

-- the number of objects of the base, and of each site's deltas
pub record Shape : Type 0 where
  pub base : ℕ
  pub deltas : List ℕ

abbrev pub shape_of : Split → Shape
unfolding definitions
shape_of s = record { base = length s.base.items; deltas = map (λ d. length d.items) s.deltas.items }

abbrev pub has_place : Shape → SplitName → Bool
unfolding definitions
has_place h (Whole x) = nat_lt x h.base
has_place h (Base x) = nat_lt x h.base
has_place h (Delta x j) = nat_lt x (slice_index_or h.deltas j 0)

abbrev mutual
  unfolding definitions

  -- each place that a command writes is there
  pub has_places : Shape → Command → Bool
  has_places h Skip = true
  has_places h (Assign t e) = true
  has_places h (Write x e) = has_place h x
  has_places h (Print e) = true
  has_places h (Seq cs) = has_places_all h cs
  has_places h (If t c d) = has_places h c && has_places h d

  pub has_places_all : Shape → Commands → Bool
  has_places_all h NoCommand = true
  has_places_all h (MoreCommand c cs) = has_places h c && has_places_all h cs
