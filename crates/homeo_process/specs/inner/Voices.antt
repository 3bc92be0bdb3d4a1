-- What is appended.
use Rattle.std.specs.Prelude.{◌≡◌, ◌⊎◌, ℕ, List, [], ◌++◌, Option, Some}
use Rattle.homeo_desk.specs.DeskView.{DeskValue}
use Rattle.homeo_desk.specs.declared.output.Output.{Output}
use Rattle.homeo_lines.specs.Lines as l
use Rattle.homeo_lines.specs.Read.{malformed}
use Rattle.homeo_process.specs.Driven.{Voice, Driven, lines_of}
use Rattle.homeo_process.specs.Taking.{Complains, Serves}

-- it is so
pub record Appends (P : List ℕ → Type 0) (old new : List ℕ) : Type 0 where
  pub written : List ℕ
  pub are : new ≡ old ++ written
  pub is : P written

-- the lines of these outputs, and maybe that what came to the node is malformed
pub record IsTold (v : Voice) (outputs : List Output) (from : Option (List ℕ)) (number : Option ℕ) (written : List ℕ) : Type 0 where
  pub complaint : List ℕ
  pub complains : (complaint ≡ []) ⊎ Complains v from number malformed complaint
  pub wrote : written ≡ lines_of v outputs ++ complaint

-- a node that has begun
abbrev pub begun : Voice → DeskValue → Driven
begun v desk = record { work = v.work; names = v.names; desk = Some desk }

-- what it does with a message, by which its desk becomes this
abbrev pub IsServed : Voice → DeskValue → l.Message → Option (List ℕ) → Option ℕ → DeskValue → (old new : List ℕ) → Type 0
IsServed v desk message from number after old new = Appends (Serves (begun v desk) desk message from number (begun v after)) old new

-- it does so whoever asks
abbrev pub IsTicked : Voice → DeskValue → (old new : List ℕ) → Type 0
IsTicked v desk old new = (from : Option (List ℕ)) (number : Option ℕ) → IsServed v desk l.Tick from number desk old new
