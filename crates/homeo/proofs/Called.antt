-- What the words of a command say of its numbers, and that they are one command.
use Rattle.std.proofs.Common.{ℕ, List}
use Rattle.homeo_words.specs.Command.{Say}
use Rattle.homeo_words.specs.declared.command.Command.{Command}
use Rattle.homeo_words.specs.declared.command.Command.TheVariants as c
use Rattle.homeo_commands.specs.Called.{HasFewCalls}

pub few_calls : (words : List (List ℕ)) (command : Command) → Say words command → HasFewCalls command
few_calls words c.Steps said = tt
few_calls words c.Run said = tt
few_calls words c.Tables said = tt
few_calls words c.Treaty said = tt
few_calls words c.Serve said = tt
few_calls words c.Forecast said = tt
few_calls words c.Certify said = tt
few_calls words c.Verify said = tt
few_calls words (c.Wire number) said = tt
few_calls words (c.Load number calls) said = said.calls_are.to_most
