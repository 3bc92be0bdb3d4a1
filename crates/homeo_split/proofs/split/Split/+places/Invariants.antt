-- The commands that are left decide.
use Rattle.std.proofs.Common.{◌≡◌, map, drop}
use Rattle.homeo_syntax.specs.LowView.{low_commands, plain_lcommand}
use Rattle.homeo_split.specs.Shape.{shape_of, has_places_all}
use Rattle.homeo_split.proofs.split.Split.+places.Given as goal

abbrev pub invariant-has_places_all-loop-c : goal.invariant-has_places_all-loop-c
invariant-has_places_all-loop-c l =
    has_places_all (shape_of l.self) (low_commands (map plain_lcommand (drop l.c-index l.cs))) ≡ has_places_all (shape_of l.self) (low_commands (map plain_lcommand l.cs))
