use Rattle.homeo_nodes.proofs.Holding.{nodes_hold}
use Rattle.homeo_nodes.proofs.laws.nodes_can_begin_again.Goals as goal

pub returns : goal.returns
returns c = nodes_hold
