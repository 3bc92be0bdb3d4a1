-- What each command makes of what its source gives, and what it refuses.
use Rattle.std.specs.Prelude.{◌≡◌, ◌≢◌, ◌≤◌, ◌⊎◌, ℕ, ⊤, List, Some, length}
use Rattle.std.specs.declared.option.Option.{Option}
use Rattle.homeo_io.specs.Moved.{GaveAll}
use Rattle.homeo_syntax.specs.declared.workload.Refusal.{Refusal}
use Rattle.homeo_syntax.specs.Source as s
use Rattle.homeo_meaning.specs.declared.call.Purpose.{Purpose}
use Rattle.homeo_meaning.specs.declared.call.Purpose.TheVariants as purpose
use Rattle.homeo_meaning.specs.Initial.{initial}
use Rattle.homeo_meaning.specs.Verdict.{Accepts, IsRefused}
use Rattle.homeo_history.specs.History.{History}
use Rattle.homeo_history.specs.Legal.{IsFull}
use Rattle.homeo_history.specs.Follows.{Follows}
use Rattle.homeo_order.specs.Order.{scheduled_calls}
use Rattle.homeo_print.specs.Tables.{tables_text}
use Rattle.homeo_print.specs.Treaties.{treaty_text}
use Rattle.homeo_report.specs.Report.{report}
use Rattle.homeo_report.specs.Summary.{summary}
use Rattle.homeo_session.specs.Streams.{IsServed, Stops}
use Rattle.homeo_forecast.specs.Text.{IsForecastText}
use Rattle.homeo_wire.specs.Drive.{calls_in}
use Rattle.homeo_load.specs.Load.{load_workload}
use Rattle.homeo_load.specs.Output.{load_summary}
use Rattle.homeo_words.specs.declared.command.Command.{Command}
use Rattle.homeo_words.specs.declared.command.Command.TheVariants.{Steps, Run, Tables, Treaty, Serve, Forecast, Certify, Verify, Wire, Load}
use Rattle.homeo_commands.specs.Certified.{certificate_limit, first_certificate, unended, IsCertificateLine, IsUncertified, IsUnverified, IsVerdictLine}
use Rattle.homeo_commands.specs.Reading.{most_read}
use Rattle.homeo_commands.specs.Wired.{HasExcess, IsWireReport}

-- ---- what is made of a workload
-- the report of a history that is legal for the workload and has all calls of each client
pub record IsReport (w : s.Workload) (output : List ℕ) : Type 0 where
  pub history : History
  pub full : IsFull w history
  pub reported : output ≡ report w history

-- the report of such a history that follows the schedule; there is one
pub record IsScheduledReport (w : s.Workload) (output : List ℕ) : Type 0 where
  pub made : IsReport w output
  pub follows : Follows w made.history (scheduled_calls w)

-- The summary of a full history of the load that starts at this number and has so many calls. All of these have one summary,
-- which the two numbers determine.
pub record IsLoadOutput (number calls : ℕ) (output : List ℕ) : Type 0 where
  pub history : History
  pub full : IsFull (load_workload number calls) history
  pub summarized : output ≡ summary (load_workload number calls) history
  pub determined : output ≡ load_summary number calls

-- ---- what is made under a command, a line for each
-- the source was read to its end, it gave a text that is accepted for this purpose as a workload, and of that this holds
pub record OfText (p : Purpose) (left left' : Option (List ℕ)) (Holds : s.Workload → Type 0) : Type 0 where
  pub text : List ℕ
  pub read : GaveAll left left' text
  pub workload : s.Workload
  pub accepted : Accepts text p workload
  pub holds : Holds workload

-- the source was read to its end, and of what it gave this holds
pub record OfStream (left left' : Option (List ℕ)) (Holds : List ℕ → Type 0) : Type 0 where
  pub bytes : List ℕ
  pub read : GaveAll left left' bytes
  pub holds : Holds bytes

-- the output of a command on what its source gave
abbrev pub IsMade : Command → (left left' : Option (List ℕ)) → List ℕ → Type 0
IsMade Steps left left' output = OfText purpose.Steps left left' (λ w. IsScheduledReport w output)
IsMade Run left left' output = OfText purpose.Run left left' (λ w. IsReport w output)
IsMade Tables left left' output = OfText purpose.Tables left left' (λ w. output ≡ tables_text w)
IsMade Treaty left left' output = OfText purpose.Treaty left left' (λ w. output ≡ treaty_text w)
IsMade Serve left left' output = OfStream left left' (λ bytes. IsServed bytes output)
IsMade Forecast left left' output = OfText purpose.Steps left left' (λ w. IsForecastText w (initial w) (scheduled_calls w) output)
IsMade Certify left left' output = OfText purpose.Treaty left left' (λ w. IsCertificateLine w output)
IsMade Verify left left' output = OfStream left left' (λ bytes. IsVerdictLine bytes output)
IsMade (Wire number) left left' output = OfText purpose.Run left left' (λ w. IsWireReport w number output)
IsMade (Load number calls) left left' output = IsLoadOutput number calls output

-- ---- what is refused under a command, and what can be done, a line for each
-- an accepted text whose certificate is too long
pub record HasLongCertificate (text : List ℕ) (r : Refusal) : Type 0 where
  pub workload : s.Workload
  pub accepted : Accepts text purpose.Treaty workload
  pub uncertified : IsUncertified workload r

-- these bytes are refused so under a command
abbrev pub IsRefusal : Command → List ℕ → Refusal → Type 0
IsRefusal Steps text r = IsRefused text purpose.Steps r
IsRefusal Run text r = IsRefused text purpose.Run r
IsRefusal Tables text r = IsRefused text purpose.Tables r
IsRefusal Treaty text r = IsRefused text purpose.Treaty r
IsRefusal Serve bytes r = (out : List ℕ) × Stops bytes out r
IsRefusal Forecast text r = IsRefused text purpose.Steps r
IsRefusal Certify text r = IsRefused text purpose.Treaty r ⊎ HasLongCertificate text r
IsRefusal Verify bytes r = IsUnverified bytes r
IsRefusal (Wire number) text r = IsRefused text purpose.Run r ⊎ HasExcess text r
IsRefusal (Load number calls) bytes r = ⊥

-- the source tells a text that is accepted for this purpose
abbrev pub TellsText : Purpose → Option (List ℕ) → Type 0
TellsText p left = (text : List ℕ) × (w : s.Workload) × (left ≡ Some text) × Accepts text p w

-- the source tells a stream that stops no session
abbrev pub TellsStream : Option (List ℕ) → Type 0
TellsStream left = (bytes : List ℕ) × (left ≡ Some bytes) × ((out : List ℕ) (r : Refusal) → Stops bytes out r → ⊥)

-- the source tells a text that is accepted and has at most 200 calls
abbrev pub TellsFewCalls : Option (List ℕ) → Type 0
TellsFewCalls left = (text : List ℕ) × (w : s.Workload) × (left ≡ Some text) × Accepts text purpose.Run w × (length (calls_in w) ≤ 200)

-- the source tells a text that is accepted and whose certificate is short enough
abbrev pub TellsCertified : Option (List ℕ) → Type 0
TellsCertified left =
    (text : List ℕ) × (w : s.Workload) × (left ≡ Some text) × Accepts text purpose.Treaty w × (length (first_certificate w) ≤ certificate_limit)

-- the source tells so few bytes as a certificate may have
abbrev pub TellsFewBytes : Option (List ℕ) → Type 0
TellsFewBytes left = (bytes : List ℕ) × (left ≡ Some bytes) × (length (unended bytes) ≤ certificate_limit)

-- what the source tells can be done under a command
abbrev pub CanBeDone : Command → Option (List ℕ) → Type 0
CanBeDone Steps left = TellsText purpose.Steps left
CanBeDone Run left = TellsText purpose.Run left
CanBeDone Tables left = TellsText purpose.Tables left
CanBeDone Treaty left = TellsText purpose.Treaty left
CanBeDone Serve left = TellsStream left
CanBeDone Forecast left = TellsText purpose.Steps left
CanBeDone Certify left = TellsCertified left
CanBeDone Verify left = TellsFewBytes left
CanBeDone (Wire number) left = TellsFewCalls left
CanBeDone (Load number calls) left = ⊤

-- a command that reads refuses so what the source told
abbrev pub IsRefusedUnder : Command → Option (List ℕ) → Refusal → Type 0
IsRefusedUnder c left r = (most_read c ≢ 0) × ((bytes : List ℕ) → left ≡ Some bytes → IsRefusal c bytes r)
