-- The versions of the language of texts (this project's rule).
use Rattle.std.specs.Prelude.{◌≡◌, ℕ, Bool, true, false, List, [], ◌∷◌}
use Rattle.homeo_syntax.specs.declared.token.Mark.{Mark}
use Rattle.homeo_syntax.specs.declared.token.Mark.TheVariants as mark
use Rattle.homeo_syntax.specs.declared.token.Version.{Version}
use Rattle.homeo_syntax.specs.declared.token.Version.TheVariants.{First, Second}

-- the number after the word `workload`
abbrev pub version_number : Version → ℕ
version_number First = 1
version_number Second = 2

-- the words that are no names there, beside those that never are
abbrev pub also_reserved : Version → List Mark
also_reserved First = []
also_reserved Second = mark.Weights ∷ mark.Abort ∷ []

-- the mark is a word of version 2 alone
abbrev pub is_later : Mark → Bool
is_later mark.Weights = true
is_later mark.Abort = true
is_later m = false

-- a text of the version may have the mark
abbrev pub CanMark : Version → Mark → Type 0
CanMark First m = is_later m ≡ false
CanMark Second m = Unit {0}
