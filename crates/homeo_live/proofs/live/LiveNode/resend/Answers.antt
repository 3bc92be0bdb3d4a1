use Rattle.homeo_live.specs.Key.{definitions}
use Rattle.std.proofs.Common.{map, sym, ap, ◌∙◌, ◌≤◌, subst}
use Rattle.std.specs.Prelude.{option_map}
use Rattle.std.proofs.lemmas.Result.{on_ok_weaker}
use Rattle.homeo_syntax.specs.SourceView.{plain_workload}
use Rattle.homeo_syntax.specs.declared.workload.Workload.{Workload}
use Rattle.homeo_plan.specs.Planned.{sites_of}
use Rattle.homeo_live.specs.LiveView.{plain_packet, plain_past, LiveValue}
use Rattle.homeo_live.proofs.Resending.{all_resent, few_states}
use Rattle.homeo_live.proofs.live.LiveNode.resend.Goals as goal

pub resend_past-requires : goal.resend_past-requires
resend_past-requires c =
    few_states c.self.inside.past (sites_of (plain_workload c.self.inside.planner)) c.self.invariant.past_long (subst (λ k. k ≤ 16) (c.site_count-sites.ensures.count ∙ ap (λ (v : Workload). sites_of (plain_workload v)) (c.workload.ensures ∙ c.compiled.ensures)) c.site_count-sites.ensures.few)

pub returns : goal.returns
unfolding definitions
returns c =
    on_ok_weaker c.resend_past.result (λ h. all_resent c.args.self.now.node c.self.inside.decided (option_map plain_past c.self.inside.past) (map plain_packet c.args.packets.now.items) (map plain_packet c.resend_mode.new.packets.items) (map plain_packet c.resend_choice.new.packets.items) (map plain_packet c.resend_past.new.packets.items) (ap (λ (v : LiveValue). v.node.decided) (sym c.self.view_is)) (ap (λ (v : LiveValue). v.node.past) (sym c.self.view_is)) c.in_ok-resend_mode.ensures c.in_ok-resend_choice.ensures h) c.resend_past.ensures
