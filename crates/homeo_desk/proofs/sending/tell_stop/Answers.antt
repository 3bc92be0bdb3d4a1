use Rattle.std.proofs.Common.{refl, ap, ◌∷◌, []}
use Rattle.homeo_nodes.specs.Nodes as n
use Rattle.homeo_live.specs.declared.packet.Packet.TheVariants as packet
use Rattle.homeo_live.specs.Key.{definitions}
use Rattle.homeo_desk.specs.declared.output.Output.TheVariants as o
use Rattle.homeo_desk.specs.declared.output.To.TheVariants as to
use Rattle.homeo_desk.proofs.Giving.{in_itself, gives_nothing, gives_put}
use Rattle.homeo_desk.proofs.sending.tell_stop.Goals as goal

pub returns-then-to-number : goal.returns-then-to-number
returns-then-to-number c = gives_nothing _ _

pub returns : goal.returns
unfolding definitions
returns c =
    gives_put _ _ _ _ (o.Packet (to.Site c.args.to) (packet.Stop c.args.chosen)) (ap (λ l. l.items) c.in_ok-push.ensures.ok) (in_itself (n.Stop c.args.chosen ∷ [])) refl
