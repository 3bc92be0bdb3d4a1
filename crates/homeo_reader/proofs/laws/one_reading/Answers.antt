use Rattle.homeo_reader.proofs.Unread.{one_reading}
use Rattle.homeo_reader.proofs.laws.one_reading.Goals as goal

pub returns : goal.returns
returns c = one_reading
