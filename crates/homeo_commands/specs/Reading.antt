-- How much each command reads.
use Rattle.std.specs.Prelude.{◌+◌, ℕ}
use Rattle.homeo_meaning.specs.Verdict.{text_limit}
use Rattle.homeo_session.specs.Streams.{stream_limit}
use Rattle.homeo_words.specs.declared.command.Command.{Command}
use Rattle.homeo_words.specs.declared.command.Command.TheVariants.{Steps, Run, Tables, Treaty, Serve, Forecast, Certify, Verify, Wire, Load}
use Rattle.homeo_commands.specs.Certified.{certificate_limit}

-- the most bytes that are read at once under `serve`
abbrev pub piece_limit : ℕ
piece_limit = 4096

-- the most bytes that a command takes of its source: of a text the limit, and one that tells that it is longer; of a stream the
-- limit, and one piece
abbrev pub most_read : Command → ℕ
most_read Steps = text_limit + 1
most_read Run = text_limit + 1
most_read Tables = text_limit + 1
most_read Treaty = text_limit + 1
most_read Serve = stream_limit + piece_limit
most_read Forecast = text_limit + 1
most_read Certify = text_limit + 1
most_read Verify = certificate_limit + 2
most_read (Wire number) = text_limit + 1
most_read (Load number calls) = 0
