use Rattle.homeo_reader.proofs.Unread.{parsed}
use Rattle.homeo_reader.proofs.reader.read_exactly.Goals as goal

pub returns : goal.returns
returns c = parsed c.args.bytes.now c.in-Ok.numbered c.as_slice.result.now c.parse.result c.in-Ok.ensures.tokens c.as_slice.ensures.value c.parse.ensures
