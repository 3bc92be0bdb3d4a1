use Rattle.homeo_live.specs.Key.{definitions}
use Rattle.std.proofs.Common.{ap, subst, ◌∙◌}
use Rattle.homeo_syntax.specs.SourceView.{plain_workload}
use Rattle.homeo_syntax.specs.declared.workload.Workload.{Workload}
use Rattle.homeo_meaning.specs.Acceptance.{IsAccepted}
use Rattle.homeo_meaning.specs.Bounds.{all_bounds}
use Rattle.homeo_meaning.specs.Initial.{initial}
use Rattle.homeo_meaning.specs.Schema.{schema_of}
use Rattle.homeo_plan.specs.Planned.{sites_of}
use Rattle.homeo_live.proofs.Begun.{begun_live, begun_view}
use Rattle.homeo_live.proofs.live.LiveNode.begin.Goals as goal

pub invariant_of-result : goal.invariant_of-result
invariant_of-result c =
    begun_live c.args.c.value c.start.new.self c.in_ok-bounds.bounds.items c.in_ok-start.start c.args.site 0 c.in_ok-base.base.items c.begin.result c.in_ok-states.states.items c.site_count.result c.new.result.items (subst (λ (v : Workload). IsAccepted (plain_workload v)) (c.workload.ensures ∙ c.deref.ensures) c.client_count-clients.ensures.accepted) (c.in_ok-start.ensures.planner ∙ c.new-planner.ensures) (c.in_ok-bounds.ensures ∙ ap (λ (v : Workload). all_bounds (schema_of (plain_workload v))) (c.workload-4.ensures ∙ c.deref-4.ensures)) (c.in_ok-start.ensures.start ∙ ap (λ (v : Workload). record { work = v; number = c.args.site; round = 0; base = c.in_ok-base.base.items }) c.new-planner.ensures) c.begin.ensures c.in_ok-states.ensures (c.site_count.ensures.count ∙ ap (λ (v : Workload). sites_of (plain_workload v)) (c.workload-3.ensures ∙ c.deref-3.ensures)) c.new.ensures.items

pub returns : goal.returns
unfolding definitions
returns c =
    begun_view c.args.c.value c.start.new.self c.in_ok-start.start c.args.site c.in_ok-base.base.items c.begin.result c.in_ok-states.states.items c.site_count.result c.new.result.items (c.in_ok-start.ensures.planner ∙ c.new-planner.ensures) (c.in_ok-start.ensures.start ∙ ap (λ (v : Workload). record { work = v; number = c.args.site; round = 0; base = c.in_ok-base.base.items }) c.new-planner.ensures) (c.in_ok-base.ensures.value ∙ ap (λ (v : Workload). initial (plain_workload v)) (c.workload-2.ensures ∙ c.deref-2.ensures)) c.begin.ensures c.in_ok-states.ensures (c.site_count.ensures.count ∙ ap (λ (v : Workload). sites_of (plain_workload v)) (c.workload-3.ensures ∙ c.deref-3.ensures)) c.new.ensures.items
