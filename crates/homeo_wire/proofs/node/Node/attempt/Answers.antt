use Rattle.homeo_round.specs.Key.{definitions as round_definitions}
use Rattle.homeo_wire.specs.Key.{definitions}
use Rattle.std.proofs.Common.{◌≡◌, refl, ap, subst, ◌∙◌}
use Rattle.homeo_syntax.specs.SourceView.{plain_workload}
use Rattle.homeo_round.specs.Tried.{IsTried, after_try}
use Rattle.homeo_core.proofs.CallsMade.{on_err}
use Rattle.homeo_wire.specs.Nodes as n
use Rattle.homeo_site.specs.SiteState.{SiteState}
use Rattle.homeo_wire.specs.declared.events.Packet.TheVariants as packet
use Rattle.homeo_wire.specs.WireView.{plain_packet, plain_node}
use Rattle.homeo_wire.proofs.NodeViews.{made_call, wanted_call, same_view}
use Rattle.homeo_wire.proofs.node.Node.attempt.Goals as goal

pub returns-in_err-prints-clause-unchanged : goal.returns-in_err-prints-clause-unchanged
returns-in_err-prints-clause-unchanged c =
    on_err c.from_residual.result _ (same_view c.args.self.now _ c.in_err-prints.ensures.unchanged refl refl refl refl refl)

pub returns-in_err-push-in-Refused-clause-unchanged : goal.returns-in_err-push-in-Refused-clause-unchanged
unfolding round_definitions
returns-in_err-push-in-Refused-clause-unchanged c =
    on_err c.from_residual-in_err-push-in-Refused.result _ (same_view c.args.self.now _ (c.in_ok-prints.ensures.state ∙ ap (after_try (plain_workload c.args.self.now.site.work) c.args.self.now.site.state c.args.call) c.in-Refused.is) refl refl refl refl refl)

pub returns-in-Made-clause-reaction : goal.returns-in-Made-clause-reaction
unfolding round_definitions definitions
returns-in-Made-clause-reaction c =
    let w = plain_workload c.args.self.now.site.work in
    let tried = subst (IsTried w c.args.self.now.site.state c.args.call) c.in-Made.is c.in_ok-prints.ensures.tried in
    made_call w c.args.self.now _ c.args.call c.args.packets.now.items _ c.in-Made.prints.items tried.0 tried.1 (c.in_ok-prints.ensures.state ∙ ap (after_try w c.args.self.now.site.state c.args.call) c.in-Made.is) refl refl refl refl refl refl

pub returns-in_ok-push-in-Refused-clause-reaction : goal.returns-in_ok-push-in-Refused-clause-reaction
unfolding round_definitions definitions
returns-in_ok-push-in-Refused-clause-reaction c =
    let w = plain_workload c.args.self.now.site.work in
    let old = c.args.self.now.site.state in
    let same : c.try_call.new.site.state ≡ old = c.in_ok-prints.ensures.state ∙ ap (after_try w old c.args.call) c.in-Refused.is in
    let breaks = subst (IsTried w old c.args.call) c.in-Refused.is c.in_ok-prints.ensures.tried in
    let round = c.round.ensures ∙ ap SiteState.round same in
    let number = c.number.ensures ∙ ap SiteState.number same in
    let wanted : plain_packet (packet.Want c.round.result c.number.result c.args.call c.in-Refused.broken) ≡ n.Want (n.breach_of (plain_node c.args.self.now) c.args.call c.in-Refused.broken) = cc in
    wanted_call w c.args.self.now _ c.args.call c.in-Refused.broken c.args.packets.now.items _ (packet.Want c.round.result c.number.result c.args.call c.in-Refused.broken) _ (ap (λ l. l.items) c.in_ok-push-in-Refused.ensures.ok) breaks wanted same refl refl refl refl refl refl
