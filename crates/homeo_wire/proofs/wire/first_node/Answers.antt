use Rattle.homeo_site.specs.Key.{definitions as site_definitions}
use Rattle.homeo_wire.specs.Key.{definitions}
use Rattle.std.proofs.Common.{◌≡◌, map, length, replicate, None, false, sym, ap, ◌∙◌}
use Rattle.homeo_syntax.specs.SourceView.{plain_workload}
use Rattle.homeo_syntax.specs.Listed.{Listed}
use Rattle.homeo_plan.specs.Planned.{sites_of}
use Rattle.homeo_site.specs.SiteState.{SiteState, begun}
use Rattle.homeo_site.specs.SiteView.{SiteValue, StartValue}
use Rattle.homeo_meaning.specs.Initial.{initial}
use Rattle.homeo_wire.specs.declared.node.Left.{Left}
use Rattle.homeo_wire.specs.declared.breach.Mode.TheVariants.{Running}
use Rattle.homeo_wire.specs.WireView.{plain_left, plain_state}
use Rattle.homeo_wire.proofs.wire.first_node.Goals as goal

pub returns-clause-node : goal.returns-clause-node
unfolding definitions
returns-clause-node c =
    let w = plain_workload c.args.c.now.value in
    let state : c.begin.result.state ≡ begun c.args.site 0 (initial w) = ap (λ (x : SiteValue). x.state) c.begin.ensures ∙ ap (λ (s : StartValue). begun s.number s.round s.base) c.in_ok-start.ensures ∙ ap (begun c.args.site 0) c.requires.at in
    let made : c.in_ok-made.made.items ≡ replicate (length w.clients) 0 = c.in_ok-made.ensures ∙ ap (λ k. replicate k 0) c.requires.clients in
    let states : map plain_state c.in_ok-states.states.items ≡ replicate (sites_of w) None = c.in_ok-states.ensures ∙ ap (λ k. replicate k None) (c.site_count.ensures.count ∙ ap (λ v. sites_of (plain_workload v)) (c.workload.ensures ∙ c.deref.ensures)) in
    let left = ap (λ (l : Listed Left). map plain_left l.items) c.new-2.ensures in
    λ j. record {
      journal = record { site = state j; left = left j; made = made j };
      mode = Running;
      decided = false;
      states = states j;
    }

pub returns-clause-is : goal.returns-clause-is
unfolding site_definitions
returns-clause-is c =
    let w = plain_workload c.args.c.now.value in
    let state : c.begin.result.state ≡ begun c.args.site 0 (initial w) = ap (λ (x : SiteValue). x.state) c.begin.ensures ∙ ap (λ (s : StartValue). begun s.number s.round s.base) c.in_ok-start.ensures ∙ ap (begun c.args.site 0) c.requires.at in
    record {
      work_is = ap (λ (x : SiteValue). x.work) c.begin.ensures ∙ ap (λ (s : StartValue). s.work) c.in_ok-start.ensures;
      base_is = c.in_ok-base.ensures ∙ c.as_slice.ensures ∙ c.requires.base ∙ sym (ap (λ (x : SiteState). x.base) state);
    }
