-- What the words of a command say of its numbers.
use Rattle.std.specs.Prelude.{◌≤◌, ⊤}
use Rattle.homeo_words.specs.declared.command.Command.{Command}
use Rattle.homeo_words.specs.declared.command.Command.TheVariants.{Steps, Run, Tables, Treaty, Serve, Forecast, Certify, Verify, Wire, Load}

-- a load has at most as many calls as a text
abbrev pub HasFewCalls : Command → Type 0
HasFewCalls Steps = ⊤
HasFewCalls Run = ⊤
HasFewCalls Tables = ⊤
HasFewCalls Treaty = ⊤
HasFewCalls Serve = ⊤
HasFewCalls Forecast = ⊤
HasFewCalls Certify = ⊤
HasFewCalls Verify = ⊤
HasFewCalls (Wire number) = ⊤
HasFewCalls (Load number calls) = calls ≤ 20000
