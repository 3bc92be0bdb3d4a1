-- A number of a command line (this project's rule).
use Rattle.std.specs.Prelude.{◌≡◌, ◌≤◌, ℕ, true, List, length}
use Rattle.std.specs.List.{list_all}
use Rattle.homeo_syntax.specs.Lexemes.{is_digit, number_value}

-- one to twenty decimal digits, zeros in front allowed, of a value from least to most
pub record IsNumeral (least most : ℕ) (word : List ℕ) (v : ℕ) : Type 0 where
  pub some : 1 ≤ length word
  pub few : length word ≤ 20
  pub digits : list_all is_digit word ≡ true
  pub value : number_value word ≡ v
  pub from_least : least ≤ v
  pub to_most : v ≤ most
