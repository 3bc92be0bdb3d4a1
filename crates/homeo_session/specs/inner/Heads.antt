-- What a session keeps of its head.
use Rattle.std.specs.Prelude.{◌≡◌, ℕ, ℤ, true, List, [], ◌∷◌, ◌++◌, ◌⊎◌, map, length, Option, Some, None}
use Rattle.homeo_syntax.specs.Reads.{Reads}
use Rattle.homeo_syntax.specs.Source as s
use Rattle.homeo_meaning.specs.Bounds.{IsWithin}
use Rattle.homeo_meaning.specs.Schema.{schema_of}
use Rattle.homeo_history.specs.History.{History}
use Rattle.homeo_history.specs.Legal.{IsLegalFrom}
use Rattle.homeo_history.specs.Follows.{Follows}
use Rattle.homeo_reader.specs.Lines.{newline, is_end, whole_lines}
use Rattle.homeo_order.specs.Order.{scheduled_calls}
use Rattle.homeo_report.specs.Report.{report}
use Rattle.homeo_session.specs.Batches.{HeadValue, IsAnswered}

-- the lines of a head before its last, and a database within the bounds of its objects
pub record IsHead (text : List ℕ) (d : List ℤ) : Type 0 where
  pub lines : List (List ℕ)
  pub line : List ℕ
  pub workload : s.Workload
  pub are : text ≡ whole_lines lines
  pub reads : Reads (whole_lines lines ++ (line ++ newline ∷ [])) workload
  pub ends : is_end line ≡ true
  pub within : IsWithin (schema_of workload) d

-- the report of the calls of the workload, made from the database on in the order of its schedule, and the last database
pub record IsServedFrom (w : s.Workload) (d : List ℤ) (answer : List ℕ) (last : List ℤ) : Type 0 where
  pub history : History
  pub legal : IsLegalFrom w d (map (λ client. length client.calls) w.clients) history
  pub follows : Follows w history (scheduled_calls w)
  pub answer_is : answer ≡ report w history
  pub after : last ≡ history.last

-- what the end of a stream adds: nothing where no frame is open, and else the answer to the last frame
abbrev pub EndsBy : Option HeadValue → List ℕ → List ℕ → Type 0
EndsBy head rest answer =
    ((rest ≡ []) × (answer ≡ []) × (there : HeadValue) × (head ≡ Some there))
    ⊎ ((rest ≡ [] → head ≡ None) × (next : Option HeadValue) × IsAnswered head rest answer next)
