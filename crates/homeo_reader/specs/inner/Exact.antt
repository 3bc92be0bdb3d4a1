-- What the reader returns.
use Rattle.std.specs.Prelude.{◌≡◌, ℕ, List, Result, Ok, Err}
use Rattle.homeo_syntax.specs.declared.token.Token.{Token}
use Rattle.homeo_syntax.specs.declared.token.Version.{Version}
use Rattle.homeo_syntax.specs.declared.workload.Workload.{Workload}
use Rattle.homeo_syntax.specs.SourceView.{plain_workload}
use Rattle.homeo_syntax.specs.Grammar.{IsFault}
use Rattle.homeo_syntax.specs.Rules.{IsWorkload}
use Rattle.homeo_syntax.specs.Reads.{Reads, IsUnread, offset_at}
use Rattle.homeo_reader.specs.declared.reader.ReadRefusal.{ReadRefusal}
use Rattle.homeo_reader.specs.declared.reader.ReadRefusal.TheVariants.{Refused, Memory}

-- What is read of a text is a workload, and what is refused is at fault there.
abbrev pub ReadsExactly : List ℕ → Result Workload ReadRefusal → Type 0
ReadsExactly text (Ok w) = Reads text (plain_workload w)
ReadsExactly text (Err Memory) = Unit {0}
ReadsExactly text (Err (Refused r)) = IsUnread text r

-- The same of tokens in a version with names.
abbrev pub ParsesExactly : Version → List (List ℕ) → List Token → ℕ → Result Workload ReadRefusal → Type 0
ParsesExactly v names ts end (Ok w) = IsWorkload v names (plain_workload w) ts
ParsesExactly v names ts end (Err Memory) = Unit {0}
ParsesExactly v names ts end (Err (Refused r)) =
    (fault : List Token) × IsFault (IsWorkload v names) ts fault × (r ≡ record { code = 4; offset = offset_at end fault })
