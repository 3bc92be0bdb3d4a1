use Rattle.homeo_lines.proofs.SmallPackets.{sent_small}
use Rattle.homeo_lines.proofs.laws.sent_packets_are_small.Goals as goal

pub returns : goal.returns
returns c = λ w events p accepted at round found. sent_small w accepted events p at round found
