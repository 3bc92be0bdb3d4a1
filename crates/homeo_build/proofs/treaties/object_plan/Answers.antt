-- The plan keeps the outline and the slacks, and its bounds are those of the policy.
use Rattle.std.proofs.Common.{ap, subst, sym, ◌∙◌}
use Rattle.homeo_syntax.specs.SourceView.{plain_workload}
use Rattle.homeo_outline.specs.Key.{definitions}
use Rattle.homeo_outline.specs.ObjectPlan.{config_in}
use Rattle.homeo_build.specs.Plan.{IsObjectPlan}
use Rattle.homeo_build.specs.inner.SharedTemplate.{spread}
use Rattle.homeo_build.proofs.ByObjects.{small_slacks}
use Rattle.homeo_build.proofs.PlanParts.{has_slack, policy_is}
use Rattle.homeo_build.proofs.treaties.object_plan.Goals as goal

pub bounds_by_weights-requires : goal.bounds_by_weights-requires
bounds_by_weights-requires c =
    let w = plain_workload c.args.c.now in
    let base = c.args.base.now.items in
    let t = c.args.template in
    let is = c.requires.template in
    record {
      sites = is.sites;
      not_negative = has_slack w base (spread t) is.template;
      small = small_slacks w base c.requires.accepted c.requires.within (spread t) is.template;
    }

pub returns : goal.returns
unfolding definitions
returns c =
    let w = plain_workload c.args.c.now in
    let base = c.args.base.now.items in
    let is = c.requires.template in
    record {
      plan = subst (IsObjectPlan w base) (sym c.in_ok-new.ensures.ok) (record {
        within = c.requires.within;
        base = ap (λ l. l.items) c.from_vec.ensures ∙ c.in_ok-values.ensures.items ∙ c.as_slice.ensures;
        parts = c.requires.parts;
        sites = is.sites;
        template = is.template;
        led = is.led;
      });
      policy = ap config_in c.in_ok-new.ensures.ok ∙ c.in_ok-bounds.ensures ∙ policy_is w base (spread c.args.template) is.template;
    }
