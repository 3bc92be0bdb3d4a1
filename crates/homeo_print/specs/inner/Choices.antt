-- The lines of choices, by the numbers that the code has.
use Rattle.std.specs.Prelude.{ℕ, ℤ, List, ◌++◌, codes}
use Rattle.std.specs.List.{flat_map}
use Rattle.homeo_print.specs.Key.{definitions}
use Rattle.homeo_print.specs.Names.{newline, numbers_text}

abbrev pub pick_text : List ℤ → List ℕ
unfolding definitions
pick_text picks = codes "pick" ++ numbers_text picks ++ newline

abbrev pub picks_text : List (List ℤ) → List ℕ
unfolding definitions
picks_text choices = flat_map pick_text choices
