use Rattle.homeo_live.specs.Key.{definitions}
use Rattle.std.proofs.Common.{◌<◌, Some, refl, sym, ap, subst, ◌∙◌}
use Rattle.homeo_syntax.specs.SourceView.{plain_workload}
use Rattle.homeo_syntax.specs.declared.workload.Workload.{Workload}
use Rattle.homeo_plan.specs.Planned.{sites_of}
use Rattle.homeo_plan.proofs.Policy.{some_sites}
use Rattle.homeo_history.specs.Legal.{IsCallAt}
use Rattle.homeo_live.specs.LiveView.{LiveValue}
use Rattle.homeo_live.specs.declared.packet.Packet.TheVariants as packet
use Rattle.homeo_live.proofs.LivePackets.{choice_is, want_left, want_taken, come_want}
use Rattle.homeo_live.proofs.live.LiveNode.choose.Goals as goal

pub may_choose-requires : goal.may_choose-requires
may_choose-requires c =
    subst (λ k. 0 < k) (sym (c.site_count-sites.ensures.count ∙ ap (λ (v : Workload). sites_of (plain_workload v)) (c.workload-w.ensures ∙ c.compiled.ensures))) (some_sites (plain_workload c.self.inside.planner) c.self.invariant.accepted)

pub returns-then-not-may_choose-clause-reaction : goal.returns-then-not-may_choose-clause-reaction
unfolding definitions
returns-then-not-may_choose-clause-reaction c =
    let i = c.self.inside in
    want_left (plain_workload c.args.self.now.work) c.args.self.now.node c.args.b c.args.packets.now.items _ (choice_is i.planner c.workload-w.result.now i.site.state i.mode i.decided i.states.items i.past i.queue.items c.args.self.now c.number.result c.round.result c.site_count-sites.result c.may_choose.result c.self.view_is (c.workload-w.ensures ∙ c.compiled.ensures) c.number.ensures.number c.round.ensures c.site_count-sites.ensures.count c.may_choose.ensures ∙ c.if-not-may_choose.true) refl

pub returns-clause-reaction : goal.returns-clause-reaction
unfolding definitions
returns-clause-reaction c =
    let i = c.self.inside in
    want_taken (plain_workload c.args.self.now.work) c.args.self.now.node _ c.args.b c.args.packets.now.items c.push.new.self.items (packet.Stop c.args.b) _ (choice_is i.planner c.workload-w.result.now i.site.state i.mode i.decided i.states.items i.past i.queue.items c.args.self.now c.number.result c.round.result c.site_count-sites.result c.may_choose.result c.self.view_is (c.workload-w.ensures ∙ c.compiled.ensures) c.number.ensures.number c.round.ensures c.site_count-sites.ensures.count c.may_choose.ensures ∙ c.if-not-may_choose.false) (ap (λ (v : LiveValue). record v.node { decided = Some c.args.b }) c.self.view_is) refl (ap (λ l. l.items) c.in_ok-push.ensures.ok) refl

pub returns-then-not-is_call_at-clause-comes : goal.returns-then-not-is_call_at-clause-comes
returns-then-not-is_call_at-clause-comes c h lt =
    c.if-not-is_call_at.ensures.no (subst (λ (v : Workload). IsCallAt (plain_workload v) c.args.b.site c.args.b.call) (sym (c.workload-w.ensures ∙ c.compiled.ensures ∙ ap (λ (v : LiveValue). v.work) c.self.view_is)) (come_want (plain_workload c.args.self.now.work) c.args.self.now.node c.args.b h))
