use Rattle.std.proofs.Common.{sym}
use Rattle.homeo_reader.proofs.Unread.{no_token}
use Rattle.homeo_reader.proofs.reader.no_token.Goals as goal

pub returns-in-None : goal.returns-in-None
returns-in-None c =
    no_token c.args.bytes.now c.args.offset c.refused-in-None.result c.refused-in-None.ensures c.requires (sym c.in-None.ensures)
