-- Lexemes in front of others.
use Rattle.std.proofs.Common.{◌≡◌, ℕ, List, [], ◌++◌, drop, refl}
use Rattle.std.specs.Prelude.{Result, Ok, Err}
use Rattle.homeo_syntax.specs.Tokens.{Scanned, scanned_from, unversioned}
use Rattle.homeo_tokens.specs.declared.numbering.Numbering.{Numbering}
use Rattle.homeo_tokens.specs.inner.Numbers.{Numbers}

abbrev pub in_front_all : List Scanned → Result (List Scanned) ℕ → Result (List Scanned) ℕ
in_front_all front (Ok ts) = Ok (front ++ ts)
in_front_all front (Err at) = Err at

pub nothing_in_front : (r : Result (List Scanned) ℕ) → in_front_all [] r ≡ r
nothing_in_front (Ok ts) = refl
nothing_in_front (Err at) = refl

-- what has been read of a text up to an offset is numbered
pub record HasRead (text : List ℕ) (at : ℕ) (n : Numbering) : Type 0 where
  pub front : List Scanned
  pub rest : in_front_all front (scanned_from 0 at (drop at text)) ≡ unversioned text
  pub numbers : Numbers front n
