-- What a frame of a session is answered by (this project's rule).
use Rattle.std.specs.Prelude.{◌≡◌, ◌⊎◌, ℕ, ℤ, List, [], ◌∷◌, ◌++◌, length, map, Option, Some, None, Ok}
use Rattle.homeo_syntax.specs.declared.workload.Refusal.{Refusal}
use Rattle.homeo_syntax.specs.Source as s
use Rattle.homeo_syntax.specs.Tokens.{Scanned, scanned_from}
use Rattle.homeo_meaning.specs.declared.call.Purpose.TheVariants.{Run, Steps}
use Rattle.homeo_meaning.specs.Initial.{initial}
use Rattle.homeo_meaning.specs.Verdict.{Accepts, IsRefused}
use Rattle.homeo_history.specs.History.{History}
use Rattle.homeo_history.specs.Legal.{IsLegalFrom}
use Rattle.homeo_history.specs.Follows.{Follows}
use Rattle.homeo_reader.specs.Stands.{EndsLexeme}
use Rattle.homeo_frames.specs.LastLines.{without_last_line}
use Rattle.homeo_accept.specs.RefusalLine.{refusal_line}
use Rattle.homeo_order.specs.Order.{scheduled_calls}
use Rattle.homeo_report.specs.Report.{report}
use Rattle.homeo_session.specs.Key.{definitions}

-- what a session has of its head: the text that stands before each batch, and the database, which batches change
pub record HeadValue : Type 0 where
  pub text : List ℕ
  pub database : List ℤ

-- ---- the head
-- the head is refused, as a text that is to be run is
abbrev pub RefusesHead : List ℕ → Refusal → Type 0
unfolding definitions
RefusesHead frame r = IsRefused frame Run r

-- the head is taken: its last line is left out, and the database is its initial one
pub record TakesHead (frame : List ℕ) (head : HeadValue) : Type 0 where
  pub workload : s.Workload
  pub accepted : Accepts frame Run workload
  pub is : head ≡ record { text = without_last_line frame; database = initial workload }

-- ---- batches
-- the batch's text is accepted as this workload, and this is the first token of the frame
pub record IsBatch (head : HeadValue) (frame : List ℕ) (w : s.Workload) (first : Scanned) : Type 0 where
  pub accepted : Accepts (head.text ++ frame) Steps w
  pub others : List Scanned
  pub begins : scanned_from 0 (length head.text) frame ≡ Ok (first ∷ others)

-- E15: the frame begins with another token than `client`, `schedule` and `end`
pub record BeginsWrong (head : HeadValue) (frame : List ℕ) (r : Refusal) : Type 0 where
  pub workload : s.Workload
  pub first : Scanned
  pub batch : IsBatch head frame workload first
  pub other : EndsLexeme first.lexeme → ⊥
  pub is : r ≡ record { code = 15; offset = first.offset }

-- The batch is refused, as a text whose calls are made in steps is, or by its first token: the answer is the refusal's line, and
-- nothing changes.
pub record IsRefusedBatch (head : HeadValue) (frame answer : List ℕ) (next : HeadValue) : Type 0 where
  pub refusal : Refusal
  pub refused : IsRefused (head.text ++ frame) Steps refusal ⊎ BeginsWrong head frame refusal
  pub answer_is : answer ≡ refusal_line refusal
  pub stays : next ≡ head

-- Its calls are made from the database on, in the order of its schedule: the answer is their report, and the database becomes the
-- last of their history.
pub record IsServedBatch (head : HeadValue) (frame answer : List ℕ) (next : HeadValue) : Type 0 where
  pub workload : s.Workload
  pub first : Scanned
  pub batch : IsBatch head frame workload first
  pub right : EndsLexeme first.lexeme
  pub history : History
  pub legal : IsLegalFrom workload head.database (map (λ client. length client.calls) workload.clients) history
  pub follows : Follows workload history (scheduled_calls workload)
  pub answer_is : answer ≡ report workload history
  pub after : next ≡ record { text = head.text; database = history.last }

abbrev pub AnswersBatch : HeadValue → List ℕ → List ℕ → HeadValue → Type 0
unfolding definitions
AnswersBatch head frame answer next = IsRefusedBatch head frame answer next ⊎ IsServedBatch head frame answer next

-- ---- frames
-- a frame's answer, and what the session has of its head after it: the first frame is the head, and has none
abbrev pub IsAnswered : Option HeadValue → List ℕ → List ℕ → Option HeadValue → Type 0
IsAnswered None frame answer next = (answer ≡ []) × (head : HeadValue) × TakesHead frame head × (next ≡ Some head)
IsAnswered (Some head) frame answer next = (after : HeadValue) × AnswersBatch head frame answer after × (next ≡ Some after)
