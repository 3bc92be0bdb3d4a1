use Rattle.homeo_lines.proofs.SmallPackets.{past_small}
use Rattle.homeo_lines.proofs.laws.pasts_are_small.Goals as goal

pub returns : goal.returns
returns c = λ w events i n p accepted here is round found. past_small w accepted events i n p here is round found
