use Rattle.homeo_reader.proofs.Unread.{read_well_formed}
use Rattle.homeo_reader.proofs.reader.read.Goals as goal

pub returns-clause-well_formed : goal.returns-clause-well_formed
returns-clause-well_formed c = read_well_formed c.args.bytes.now c.read_exactly.result c.read_exactly.ensures
