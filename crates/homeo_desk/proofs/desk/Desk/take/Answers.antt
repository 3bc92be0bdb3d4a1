use Rattle.std.proofs.Common.{◌∷◌, [], subst}
use Rattle.homeo_syntax.specs.SourceView.{plain_workload}
use Rattle.homeo_nodes.specs.Nodes as n
use Rattle.homeo_live.specs.LiveView.{plain_packet}
use Rattle.homeo_desk.specs.Moves.{sent_after}
use Rattle.homeo_desk.specs.inner.Delivering.{IsChosen}
use Rattle.homeo_desk.proofs.Giving.{in_one, in_right}
use Rattle.homeo_desk.proofs.Moving.{then}
use Rattle.homeo_desk.proofs.desk.Desk.take.Goals as goal

pub returns-in-No-clause-moves : goal.returns-in-No-clause-moves
returns-in-No-clause-moves c = c.in_ok-delivered.ensures.delivers.move

pub returns-in-Yes-clause-moves : goal.returns-in-Yes-clause-moves
returns-in-Yes-clause-moves c = c.in_ok-delivered.ensures.delivers.move

pub returns-in_ok-fits-in-Chose-clause-moves : goal.returns-in_ok-fits-in-Chose-clause-moves
returns-in_ok-fits-in-Chose-clause-moves c =
    let old = c.args.self.now in
    let packet : n.Packet = plain_packet c.args.packet in
    let stop : n.Packet = n.Stop c.in-Chose.breach in
    let d = c.in_ok-delivered.ensures.delivers in
    let sent = sent_after (plain_workload old.work) d.move.inputs old.node in
    let among = subst (λ x. IsChosen x sent) c.in-Chose.is d.chosen in
    then [] (packet ∷ []) (stop ∷ []) old _ _ _ _ _ d.move (in_right (stop ∷ []) (packet ∷ []) sent (in_one stop sent among)) c.in_ok-fits-in-Chose.ensures.moves
