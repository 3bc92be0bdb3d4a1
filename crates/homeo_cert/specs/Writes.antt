-- What a writer answers that may write at most 16,777,216 bytes: the text, or how long it would be.
use Rattle.std.specs.Prelude.{◌≡◌, ℕ, ◌≤◌, ◌<◌, List, length, Result, MatchResult, Vec}
use Rattle.std.specs.Global.{Global}
use Rattle.homeo_cert.specs.declared.writing.CertError.{CertError}
use Rattle.homeo_cert.specs.declared.writing.CertError.TheVariants as error

-- the most bytes
abbrev pub most_bytes : ℕ
most_bytes = 16777216

-- the text, which isn't too long
pub record IsWhole (text : List ℕ) (bytes : List ℕ) : Type 0 where
  pub same : bytes ≡ text
  pub short : length text ≤ most_bytes

-- how long the text is, which is too long
pub record IsTooLong (text : List ℕ) (n : ℕ) : Type 0 where
  pub count : n ≡ length text
  pub long : most_bytes < length text

abbrev pub IsUnwritten : List ℕ → CertError → Type 0
IsUnwritten text (error.TooLong n) = IsTooLong text n
IsUnwritten text error.Memory = Unit {0}

abbrev pub Writes : List ℕ → Result (Vec ℕ Global) CertError → Type 0
Writes text r = MatchResult r (λ v. IsWhole text v.items) (IsUnwritten text)
