-- The commands on a text: what a text is read for under each, and what each makes of a workload, or refuses.
use Rattle.std.specs.Prelude.{◌≡◌, ℕ, ⊤, List}
use Rattle.homeo_syntax.specs.declared.workload.Refusal.{Refusal}
use Rattle.homeo_syntax.specs.Source as s
use Rattle.homeo_meaning.specs.Initial.{initial}
use Rattle.homeo_meaning.specs.declared.call.Purpose.{Purpose}
use Rattle.homeo_meaning.specs.declared.call.Purpose.TheVariants as purpose
use Rattle.homeo_order.specs.Order.{scheduled_calls}
use Rattle.homeo_print.specs.Tables.{tables_text}
use Rattle.homeo_print.specs.Treaties.{treaty_text}
use Rattle.homeo_forecast.specs.Text.{IsForecastText}
use Rattle.homeo_words.specs.declared.command.Command.{Command}
use Rattle.homeo_words.specs.declared.command.Command.TheVariants.{Steps, Run, Tables, Treaty, Serve, Forecast, Certify, Verify, Wire, Load}
use Rattle.homeo_commands.specs.Certified.{IsCertificateLine, IsUncertified}
use Rattle.homeo_commands.specs.Made.{IsReport, IsScheduledReport}
use Rattle.homeo_commands.specs.Wired.{IsExcess, IsWireReport}

-- the command reads a text
abbrev pub IsOnText : Command → Type 0
IsOnText Steps = ⊤
IsOnText Run = ⊤
IsOnText Tables = ⊤
IsOnText Treaty = ⊤
IsOnText Serve = ⊥
IsOnText Forecast = ⊤
IsOnText Certify = ⊤
IsOnText Verify = ⊥
IsOnText (Wire number) = ⊤
IsOnText (Load number calls) = ⊥

-- what the text is read for; the last line is of commands that read none
abbrev pub purpose_of : Command → Purpose
purpose_of Run = purpose.Run
purpose_of Tables = purpose.Tables
purpose_of Treaty = purpose.Treaty
purpose_of Certify = purpose.Treaty
purpose_of (Wire number) = purpose.Run
purpose_of _ = purpose.Steps

-- this is made of a workload
abbrev pub Makes : Command → s.Workload → List ℕ → Type 0
Makes Steps w output = IsScheduledReport w output
Makes Run w output = IsReport w output
Makes Tables w output = output ≡ tables_text w
Makes Treaty w output = output ≡ treaty_text w
Makes Forecast w output = IsForecastText w (initial w) (scheduled_calls w) output
Makes Certify w output = IsCertificateLine w output
Makes (Wire number) w output = IsWireReport w number output
Makes _ w output = ⊥

-- a workload that is accepted for the command's purpose is refused so
abbrev pub Excludes : Command → s.Workload → Refusal → Type 0
Excludes Certify w r = IsUncertified w r
Excludes (Wire number) w r = IsExcess w r
Excludes _ w r = ⊥
