-- The text of a report (this project's rule).
use Rattle.std.specs.Prelude.{◌≡◌, ℕ, List, [], ◌∷◌, ◌++◌, length, ℤ, Option, Some, None, codes, decimal, slice_get}
use Rattle.std.specs.Fmt.{signed_decimal}
use Rattle.std.specs.List.{flat_map, enumerate_from}
use Rattle.std.specs.Option.{option_map_or}
use Rattle.homeo_syntax.specs.Source as s
use Rattle.homeo_meaning.specs.declared.call.CallId.{CallId}
use Rattle.homeo_meaning.specs.Serial.{call_of, arguments}
use Rattle.homeo_plan.specs.declared.treaty.Broken.{Broken}
use Rattle.homeo_history.specs.History.{Entry, Closing, Round, History}
use Rattle.homeo_history.specs.Legal.{calls_of}
use Rattle.homeo_print.specs.Names.{newline, heading, numbers_text, name_text, object_names}
use Rattle.homeo_print.specs.Calls.{call_text}
use Rattle.homeo_report.specs.Key.{definitions}

-- ---- calls
-- the name of a call's client, and nothing where there is no such client
abbrev pub client_text : s.Workload → CallId → List ℕ
unfolding definitions
client_text w id = option_map_or (λ client. name_text w client.name) (slice_get w.clients id.client) []

-- a client's call, and nothing where there is no such call
abbrev pub made_text : s.Workload → CallId → List ℕ
unfolding definitions
made_text w id = option_map_or (λ c. call_text w c.name (arguments c)) (call_of w id) []

-- CLIENT NUMBER CALL: V V
abbrev pub entry_line : s.Workload → Entry → List ℕ
unfolding definitions
entry_line w e =
    client_text w e.call ++ codes " " ++ decimal e.call.seq ++ codes " " ++ made_text w e.call ++ codes ":"
    ++ numbers_text e.prints ++ newline

-- ---- rounds
abbrev pub entries_text : s.Workload → List Entry → List ℕ
unfolding definitions
entries_text w entries = flat_map (entry_line w) entries

-- site I, and its entries
abbrev pub segment_text : s.Workload → ℕ → List Entry → List ℕ
unfolding definitions
segment_text w site entries = heading (codes "site ") site ++ entries_text w entries

-- the sites are numbered from 0
abbrev pub segments_text : s.Workload → List (List Entry) → List ℕ
unfolding definitions
segments_text w segments = flat_map (λ s. segment_text w s.0 s.1) (enumerate_from 0 segments)

-- close I clause C sum S bound B
abbrev pub closing_heading : ℕ → Broken → List ℕ
unfolding definitions
closing_heading site b =
    codes "close " ++ decimal site ++ codes " clause " ++ decimal b.clause ++ codes " sum " ++ signed_decimal b.sum
    ++ codes " bound " ++ signed_decimal b.bound ++ newline

-- the heading of the closing call with its finding, and its entry
abbrev pub closing_text : s.Workload → Option Closing → List ℕ
unfolding definitions
closing_text w None = []
closing_text w (Some c) = closing_heading c.site c.broken ++ entry_line w c.entry

abbrev pub round_text : s.Workload → ℕ → Round → List ℕ
unfolding definitions
round_text w number r =
    heading (codes "round ") number ++ segments_text w r.segments ++ closing_text w r.closing

-- the rounds are numbered from 0
abbrev pub rounds_text : s.Workload → List Round → List ℕ
unfolding definitions
rounds_text w rounds = flat_map (λ r. round_text w r.0 r.1) (enumerate_from 0 rounds)

-- ---- objects
-- NAME = V
abbrev pub object_line : List ℕ → ℤ → List ℕ
unfolding definitions
object_line name v = name ++ codes " = " ++ signed_decimal v ++ newline

abbrev pub object_lines : List (List ℕ) → List ℤ → List ℕ
unfolding definitions
object_lines [] values = []
object_lines (name ∷ names) [] = []
object_lines (name ∷ names) (v ∷ values) = object_line name v ++ object_lines names values

-- ---- the whole
abbrev pub totals_line : ℕ → ℕ → List ℕ
unfolding definitions
totals_line rounds calls = codes "rounds " ++ decimal rounds ++ codes " calls " ++ decimal calls ++ newline

abbrev pub report : s.Workload → History → List ℕ
unfolding definitions
report w h =
    rounds_text w h.rounds ++ codes "database\n" ++ object_lines (object_names w) h.last
    ++ totals_line (length h.rounds) (length (calls_of h.rounds))

-- the last database has one value for each object
pub record CanReport (w : s.Workload) (h : History) : Type 0 where
  pub values : length h.last ≡ length (object_names w)
