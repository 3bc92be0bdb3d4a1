use Rattle.std.proofs.Common.{refl, ap, ◌∷◌, []}
use Rattle.homeo_live.specs.LiveView.{plain_packet}
use Rattle.homeo_desk.specs.declared.output.Output.TheVariants as o
use Rattle.homeo_desk.proofs.Giving.{in_itself, gives_nothing, gives_put}
use Rattle.homeo_desk.proofs.sending.let_out.Goals as goal

pub returns-in_ok-push-in-Some : goal.returns-in_ok-push-in-Some
returns-in_ok-push-in-Some c =
    gives_put _ _ _ _ (o.Packet c.in-Some.to c.args.packet) (ap (λ l. l.items) c.in_ok-push-in-Some.ensures.ok) (in_itself (plain_packet c.args.packet ∷ [])) refl

pub returns-in-None : goal.returns-in-None
returns-in-None c = gives_nothing _ _
