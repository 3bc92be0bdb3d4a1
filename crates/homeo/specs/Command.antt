-- When a run reads nothing, the lines that go to the complaints, and the numbers of statuses.
use Rattle.std.specs.Prelude.{◌≡◌, ℕ, List, [], codes}
use Rattle.homeo_words.specs.Command.{Say}
use Rattle.homeo_words.specs.declared.command.Command.{Command}
use Rattle.homeo_commands.specs.Reading.{most_read}
use Rattle.homeo.specs.declared.status.Status.{Status}
use Rattle.homeo.specs.declared.status.Status.TheVariants.{Done, Usage, Refused, Memory, ReadFault, WriteFault}

-- the words are no command that reads anything
abbrev pub ReadNothing : List (List ℕ) → Type 0
ReadNothing words = (c : Command) → Say words c → most_read c ≡ 0

-- the line of a status; that of a refusal has more to say
abbrev pub line_of : Status → List ℕ
line_of Done = []
line_of Usage = codes "usage: homeo steps or run or tables or treaty or serve or forecast or certify or verify or wire NUMBER or load NUMBER CALLS\n"
line_of Refused = []
line_of Memory = codes "out of memory\n"
line_of ReadFault = codes "read fault\n"
line_of WriteFault = codes "write fault\n"

-- the number that a program ends with
abbrev pub number_of : Status → ℕ
number_of Done = 0
number_of Usage = 1
number_of Refused = 2
number_of Memory = 3
number_of ReadFault = 4
number_of WriteFault = 5
