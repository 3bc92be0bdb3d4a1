-- The words of a command line, before they are a command.
use Rattle.std.specs.Prelude.{ℕ, Bool, false, ◌==◌, List, [], ◌∷◌, map, codes}
use Rattle.std.specs.Borrow.{Bor}
use Rattle.homeo_words.specs.declared.reading.Said.{Said}
use Rattle.homeo_words.specs.declared.reading.Said.TheVariants.{Plain, Wire, Load}

abbrev pub Words : Type 0
Words = List (List ℕ)

abbrev pub texts : List (Bor (List ℕ)) → Words
texts words = map (λ w. w.now) words

abbrev pub begins_with_minus : List ℕ → Bool
begins_with_minus [] = false
begins_with_minus (b ∷ bytes) = b == 45

-- the words that were told apart
abbrev pub said_words : Said → Words
said_words (Plain word) = word.now ∷ []
said_words (Wire number) = codes "wire" ∷ number.now ∷ []
said_words (Load number calls) = codes "load" ∷ number.now ∷ calls.now ∷ []
