use Rattle.homeo_lines.proofs.SmallPackets.{node_small}
use Rattle.homeo_lines.proofs.laws.nodes_are_small.Goals as goal

pub returns : goal.returns
returns c = λ w events i n accepted here round all. node_small w accepted events all i n here round
