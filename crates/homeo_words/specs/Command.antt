-- The commands with their words (this project's rule).
use Rattle.std.specs.Prelude.{◌≡◌, ℕ, List, [], ◌∷◌, codes}
use Rattle.homeo_words.specs.Numeral.{IsNumeral}
use Rattle.homeo_words.specs.declared.command.Command.{Command}
use Rattle.homeo_words.specs.declared.command.Command.TheVariants.{Steps, Run, Tables, Treaty, Serve, Forecast, Certify, Verify, Wire, Load}

-- `load`, a number below 2 ^ 64, and how many calls, from 1 to 20,000
pub record SayLoad (words : List (List ℕ)) (number calls : ℕ) : Type 0 where
  pub first : List ℕ
  pub second : List ℕ
  pub said : words ≡ codes "load" ∷ first ∷ second ∷ []
  pub number_is : IsNumeral 0 18446744073709551615 first number
  pub calls_are : IsNumeral 1 20000 second calls

-- `wire` and a number below 2 ^ 64
pub record SayWire (words : List (List ℕ)) (number : ℕ) : Type 0 where
  pub first : List ℕ
  pub said : words ≡ codes "wire" ∷ first ∷ []
  pub number_is : IsNumeral 0 18446744073709551615 first number

-- the words are this command
abbrev pub Say : List (List ℕ) → Command → Type 0
Say words Steps = words ≡ codes "steps" ∷ []
Say words Run = words ≡ codes "run" ∷ []
Say words Tables = words ≡ codes "tables" ∷ []
Say words Treaty = words ≡ codes "treaty" ∷ []
Say words Serve = words ≡ codes "serve" ∷ []
Say words Forecast = words ≡ codes "forecast" ∷ []
Say words Certify = words ≡ codes "certify" ∷ []
Say words Verify = words ≡ codes "verify" ∷ []
Say words (Wire number) = SayWire words number
Say words (Load number calls) = SayLoad words number calls

-- the words are a command
abbrev pub IsCommand : List (List ℕ) → Type 0
IsCommand words = (c : Command) × Say words c
