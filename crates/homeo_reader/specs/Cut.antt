-- Texts that were cut short.
use Rattle.std.specs.Prelude.{◌≡◌, ℕ, List, ◌∷◌, ◌++◌, Ok}
use Rattle.homeo_syntax.specs.Tokens.{Scanned, scanned_of}

-- A beginning of a text, whose lexemes are the first of the text's, but not all of them.
pub record IsCutShort (text cut : List ℕ) : Type 0 where
  pub rest : List ℕ
  pub begins : text ≡ cut ++ rest
  pub kept : List Scanned
  pub kept_are : scanned_of cut ≡ Ok kept
  pub next : Scanned
  pub others : List Scanned
  pub all_are : scanned_of text ≡ Ok (kept ++ next ∷ others)
