-- Over the deltas of the sites the template is the one of the base.
use Rattle.std.proofs.Common.{ap, sym, subst, ◌∙◌}
use Rattle.std.proofs.lemmas.Result.{IfOk-weaker}
use Rattle.homeo_syntax.specs.SourceView.{plain_workload}
use Rattle.homeo_plan.specs.PlanView.{plain_template}
use Rattle.homeo_follow.specs.ObjectTemplate.{expanded_template}
use Rattle.homeo_build.specs.Plan.{AreParts}
use Rattle.homeo_build.proofs.ByObjects.{small_slacks, freezes_in_order}
use Rattle.homeo_build.proofs.treaties.template_of.Goals as goal

pub object_template-requires-clause-parts : goal.object_template-requires-clause-parts
object_template-requires-clause-parts c =
    subst (AreParts (plain_workload c.args.c.now) c.args.base.now.items) (sym c.as_slice.ensures) c.in_ok-parts.ensures

pub returns : goal.returns
returns c =
    let w = plain_workload c.args.c.now in
    let base = c.args.base.now.items in
    let whole = c.in_ok-whole.whole in
    let there = ap (λ k. expanded_template k (plain_template whole)) c.in_ok-whole.ensures.sites ∙ c.in_ok-whole.ensures.template in
    record {
      sites = IfOk-weaker c.at_sites.result _ _ (λ t is. is ∙ c.in_ok-whole.ensures.sites) c.at_sites.ensures.sites;
      template = IfOk-weaker c.at_sites.result _ _ (λ t is. is ∙ there) c.at_sites.ensures.template;
      small = IfOk-weaker c.at_sites.result _ _ (λ t is. small_slacks w base c.requires.accepted c.requires.within (plain_template t) (is ∙ there)) c.at_sites.ensures.template;
      order = IfOk-weaker c.at_sites.result _ _ (λ t is. freezes_in_order w base c.requires.accepted c.requires.within (plain_template t) (is ∙ there)) c.at_sites.ensures.template;
    }
