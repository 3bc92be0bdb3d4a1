use Rattle.homeo_reader.proofs.Unread.{unread}
use Rattle.homeo_reader.proofs.laws.unread.Goals as goal

pub returns : goal.returns
returns c = unread
