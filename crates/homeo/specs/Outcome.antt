-- What the words of a run come to, and what the run did to its output and its complaints, where they tell their bytes.
use Rattle.std.specs.Prelude.{◌≡◌, ◌⊎◌, ℕ, List, Some}
use Rattle.std.specs.declared.option.Option.{Option}
use Rattle.homeo_io.specs.Faults.{Rose}
use Rattle.homeo_io.specs.Moved.{TookExactly, TookPrefix}
use Rattle.homeo_syntax.specs.declared.workload.Refusal.{Refusal}
use Rattle.homeo_accept.specs.RefusalLine.{refusal_line}
use Rattle.homeo_words.specs.Command.{Say}
use Rattle.homeo_words.specs.declared.command.Command.{Command}
use Rattle.homeo_commands.specs.Made.{CanBeDone, IsMade, IsRefusal, IsRefusedUnder}

-- ---- of the command that the words are
-- the words are a command under which what the source tells is refused
abbrev pub TellsRefused : List (List ℕ) → Option (List ℕ) → Type 0
TellsRefused words left =
    (c : Command) × (bytes : List ℕ) × (r : Refusal) × Say words c × (left ≡ Some bytes) × IsRefusal c bytes r

-- the words are a command under which what the source tells can be done
abbrev pub TellsDoable : List (List ℕ) → Option (List ℕ) → Type 0
TellsDoable words left = (c : Command) × Say words c × CanBeDone c left

-- the words are a command, and this is its output on what the source gave
abbrev pub IsOutput : List (List ℕ) → (left left' : Option (List ℕ)) → List ℕ → Type 0
IsOutput words left left' output = (c : Command) × Say words c × IsMade c left left' output

-- ---- what was done
-- the output was made, and the sink took exactly it
abbrev pub IsDone : List (List ℕ) → (left left' taken taken' : Option (List ℕ)) → Type 0
IsDone words left left' taken taken' = (output : List ℕ) × IsOutput words left left' output × TookExactly taken taken' output

-- the output was made, and the sink took a prefix of it
abbrev pub IsCutOff : List (List ℕ) → (left left' taken taken' : Option (List ℕ)) → Type 0
IsCutOff words left left' taken taken' = (output : List ℕ) × IsOutput words left left' output × TookPrefix taken taken' output

-- the sink took exactly the line, or its count of faults rose and it took a prefix
abbrev pub TookLine : (old new : Option (List ℕ)) → (before now : ℕ) → List ℕ → Type 0
TookLine old new before now line = TookExactly old new line ⊎ (TookPrefix old new line × Rose before now)

-- what the source told was refused under the command that the words are, and code and offset were told
abbrev pub IsToldRefusal : List (List ℕ) → (left taken taken' : Option (List ℕ)) → (before now : ℕ) → Type 0
IsToldRefusal words left taken taken' before now =
    (c : Command) × (r : Refusal) × Say words c × IsRefusedUnder c left r × TookLine taken taken' before now (refusal_line r)
