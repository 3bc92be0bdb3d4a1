-- What a run did to its source and its complaints, by its status, where these tell their bytes (this project's rule).
use Rattle.std.specs.Prelude.{◌≡◌, ◌⊎◌, ◌≤◌, ℕ, List, [], ◌++◌, length, codes}
use Rattle.std.specs.declared.option.Option.{Option}
use Rattle.std.specs.Io.KnownBytes.{Consumes, IsAtEnd}
use Rattle.homeo_io.specs.Faults.{Rose}
use Rattle.homeo_io.specs.Moved.{GaveAll, TookExactly, TookPrefix}
use Rattle.homeo_syntax.specs.declared.workload.Refusal.{Refusal}
use Rattle.homeo_process.specs.Runs.{Gives}
use Rattle.homeo_process.specs.Streams.{IsSoFar, IsWhole, IsStopped, EndRefuses}
use Rattle.homeo_process.specs.declared.status.Status.{Status}
use Rattle.homeo_process.specs.declared.status.Status.TheVariants.{Done, Usage, Refused, Memory, ReadFault, WriteFault}

-- the most bytes that are read at once
abbrev pub piece_limit : ℕ
piece_limit = 32768

-- the text is not refused by the bytes but for the last few
pub record IsEarly (bytes : List ℕ) : Type 0 where
  pub early : List ℕ
  pub late : List ℕ
  pub are : bytes ≡ early ++ late
  pub few : length late ≤ piece_limit
  pub so_far : IsSoFar early

-- ---- what was read
-- all, and the text is accepted
abbrev pub ReadAll : (left left' : Option (List ℕ)) → Type 0
ReadAll left left' = (bytes : List ℕ) × GaveAll left left' bytes × IsWhole bytes

-- a text that is refused
abbrev pub ReadRefused : Refusal → (left left' : Option (List ℕ)) → Type 0
ReadRefused r left left' = (bytes : List ℕ) × Consumes left left' bytes × (IsStopped bytes r ⊎ (IsAtEnd left' × EndRefuses bytes r))

-- the text is not refused, as far as was looked
abbrev pub ReadEarly : (left left' : Option (List ℕ)) → Type 0
ReadEarly left left' = (bytes : List ℕ) × Consumes left left' bytes × IsEarly bytes

abbrev pub ReadSoFar : (left left' : Option (List ℕ)) → Type 0
ReadSoFar left left' = (bytes : List ℕ) × Consumes left left' bytes × IsSoFar bytes

-- where the run ended so
abbrev pub Reads : Status → (left left' : Option (List ℕ)) → Type 0
Reads Done left left' = ReadAll left left'
Reads Usage left left' = ⊥
Reads Refused left left' = (r : Refusal) × ReadRefused r left left'
Reads Memory left left' = ReadEarly left left'
Reads ReadFault left left' = ReadSoFar left left'
Reads WriteFault left left' = ReadSoFar left left'

-- ---- what was written
-- the output took what was given by all that was read, by a prefix that lacks at most a piece, or a prefix of what was given
abbrev pub WroteAll : (left left' taken taken' : Option (List ℕ)) → Type 0
WroteAll left left' taken taken' = (bytes : List ℕ) × Consumes left left' bytes × (written : List ℕ) × Gives bytes written × TookExactly taken taken' written

pub record WroteEarly (left left' taken taken' : Option (List ℕ)) : Type 0 where
  pub early : List ℕ
  pub late : List ℕ
  pub gave : Consumes left left' (early ++ late)
  pub few : length late ≤ piece_limit
  pub written : List ℕ
  pub gives : Gives early written
  pub took : TookExactly taken taken' written

abbrev pub WroteSome : (left left' taken taken' : Option (List ℕ)) → Type 0
WroteSome left left' taken taken' = (bytes : List ℕ) × Consumes left left' bytes × (written : List ℕ) × Gives bytes written × TookPrefix taken taken' written

-- where the run ended so
abbrev pub Writes : Status → (left left' taken taken' : Option (List ℕ)) → Type 0
Writes Done left left' taken taken' = WroteAll left left' taken taken'
Writes Usage left left' taken taken' = ⊥
Writes Refused left left' taken taken' = TookExactly taken taken' []
Writes Memory left left' taken taken' = WroteEarly left left' taken taken'
Writes ReadFault left left' taken taken' = WroteAll left left' taken taken'
Writes WriteFault left left' taken taken' = WroteSome left left' taken taken'

-- ---- statuses
abbrev pub number_of : Status → ℕ
number_of Done = 0
number_of Usage = 1
number_of Refused = 2
number_of Memory = 3
number_of ReadFault = 4
number_of WriteFault = 5

-- ---- complaints
abbrev pub line_of : Status → List ℕ
line_of Done = []
line_of Usage = codes "usage: homeo_node\n"
line_of Refused = []
line_of Memory = codes "out of memory\n"
line_of ReadFault = codes "read fault\n"
line_of WriteFault = codes "write fault\n"

-- the sink took exactly the line, or its count of faults rose and it took a prefix
abbrev pub TookLine : (old new : Option (List ℕ)) → (before now : ℕ) → List ℕ → Type 0
TookLine old new before now line = TookExactly old new line ⊎ (TookPrefix old new line × Rose before now)
