use Rattle.homeo_live.specs.Key.{definitions}
use Rattle.std.proofs.Common.{◌≡◌, [], ◌∷◌, ◌++◌, map, Some, refl, sym, ap, subst, ◌∙◌, slice_set}
use Rattle.std.specs.Prelude.{is_some}
use Rattle.std.proofs.lemmas.Option.{MatchOption-at_some}
use Rattle.homeo_syntax.specs.SourceView.{plain_workload}
use Rattle.homeo_syntax.specs.declared.workload.Workload.{Workload}
use Rattle.homeo_history.specs.Legal.{IsCallAt}
use Rattle.homeo_nodes.specs.Nodes as n
use Rattle.homeo_carry.specs.CarryView.{plain_said}
use Rattle.homeo_live.specs.LiveView.{LiveValue, plain_state, plain_packet}
use Rattle.homeo_live.specs.declared.packet.Packet.TheVariants as packet
use Rattle.homeo_live.specs.declared.packet.Step.TheVariants as step
use Rattle.homeo_live.proofs.LiveViews.{idle_is}
use Rattle.homeo_live.proofs.LivePackets.{left_stop, stop_reaction, come_stop, settle_stop, said_is, own_said}
use Rattle.homeo_live.proofs.live.LiveNode.stop.Goals as goal

pub returns-in-Stopped-clause-reaction : goal.returns-in-Stopped-clause-reaction
unfolding definitions
returns-in-Stopped-clause-reaction c =
    let w = plain_workload c.args.self.now.work in
    let y = c.args.self.now.node in
    idle_is (n.taken w _ (n.Stop c.args.b)) y c.args.packets.now.items c.args.packets.now.items step.Ignored n.Ignored (left_stop w y c.args.b c.in-Stopped.field-0 (ap (λ (v : LiveValue). v.node.mode) (sym c.self.view_is) ∙ c.in-Stopped.is)) refl refl

pub returns-in-Some : goal.returns-in-Some
unfolding definitions
returns-in-Some c =
    let w = plain_workload c.args.self.now.work in
    let y = c.args.self.now.node in
    let view = c.self.view_is in
    let sts = map plain_state c.in_ok-states-in_default.states.items in
    let number = c.number-site.ensures.number ∙ ap (λ (v : LiveValue). v.node.number) view in
    let round = c.round-round.ensures ∙ ap (λ (v : LiveValue). v.node.round) view in
    let said = plain_said c.in_ok-said-in_default.said in
    let own : said ≡ own_said w y = said_is w y said c.in_ok-said-in_default.ensures in
    let put : sts ≡ slice_set y.states y.number (Some (own_said w y)) =
    c.in_ok-states-in_default.ensures
    ∙ ap (λ xs. slice_set (map plain_state xs) c.number-site.result (Some said)) c.as_slice.ensures.value
    ∙ ap (λ (v : LiveValue). slice_set v.node.states c.number-site.result (Some said)) view
    ∙ ap (λ k. slice_set y.states k (Some said)) number
    ∙ ap (λ d. slice_set y.states y.number (Some d)) own in
    let state = packet.State c.round-round.result c.number-site.result c.in_ok-said-in_default.said in
    let sent : plain_packet state ≡ n.State y.round y.number (own_said w y) = ap (λ r. n.State r c.number-site.result said) round ∙ ap (λ k. n.State y.round k said) number ∙ ap (n.State y.round y.number) own in
    record {
      reaction = stop_reaction w y c.args.b sts c.settle.new.self.node c.args.packets.now.items c.push_packet.new.packets.items state c.in-Some.step (λ b e. c.in_default.not-Stopped b (ap (λ (v : LiveValue). v.node.mode) view ∙ e)) put sent (c.push_packet.ensures ∙ ap (λ l. l.items ++ state ∷ []) c.in_ok-reserve-in_default.ensures.ok) (MatchOption-at_some _ _ c.in-Some.step c.in-Some.is c.in_ok-step-in_default.ensures.node) (MatchOption-at_some _ _ c.in-Some.step c.in-Some.is c.in_ok-step-in_default.ensures.came_to);
      comes = λ h lt. refl;
      left = λ e. absurd (cc);
      unchanged = tt;
      unsent = tt;
      work = c.in_ok-step-in_default.ensures.work;
    }

pub returns-then-not-is_call_at-clause-comes : goal.returns-then-not-is_call_at-clause-comes
returns-then-not-is_call_at-clause-comes c h lt =
    c.if-not-is_call_at.ensures.no (subst (λ (v : Workload). IsCallAt (plain_workload v) c.args.b.site c.args.b.call) (sym (c.workload.ensures ∙ c.compiled.ensures ∙ ap (λ (v : LiveValue). v.work) c.self.view_is)) (come_stop (plain_workload c.args.self.now.work) c.args.self.now.node c.args.b h))

pub returns-in-None : goal.returns-in-None
unfolding definitions
returns-in-None c =
    let w = plain_workload c.args.self.now.work in
    let y = c.args.self.now.node in
    let view = c.self.view_is in
    let sts = map plain_state c.in_ok-states-in_default.states.items in
    let number = c.number-site.ensures.number ∙ ap (λ (v : LiveValue). v.node.number) view in
    let said = plain_said c.in_ok-said-in_default.said in
    let own : said ≡ own_said w y = said_is w y said c.in_ok-said-in_default.ensures in
    let put : sts ≡ slice_set y.states y.number (Some (own_said w y)) =
    c.in_ok-states-in_default.ensures
    ∙ ap (λ xs. slice_set (map plain_state xs) c.number-site.result (Some said)) c.as_slice.ensures.value
    ∙ ap (λ (v : LiveValue). slice_set v.node.states c.number-site.result (Some said)) view
    ∙ ap (λ k. slice_set y.states k (Some said)) number
    ∙ ap (λ d. slice_set y.states y.number (Some d)) own in
    record {
      reaction = tt;
      comes = λ h lt. sym (ap is_some c.in-None.is) ∙ c.in_ok-step-in_default.ensures.closes (settle_stop w y c.args.b sts h (λ b e. c.in_default.not-Stopped b (ap (λ (v : LiveValue). v.node.mode) view ∙ e)) put) lt;
      left = λ e. c.in_ok-step-in_default.ensures.left c.in-None.is;
      unchanged = tt;
      unsent = tt;
      work = c.in_ok-step-in_default.ensures.work;
    }
