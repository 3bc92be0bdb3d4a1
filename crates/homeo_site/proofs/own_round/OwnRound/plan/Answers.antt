use Rattle.std.proofs.Common.{sym, subst}
use Rattle.homeo_syntax.specs.SourceView.{plain_workload}
use Rattle.homeo_outline.specs.declared.plan.ObjectPlan.{ObjectPlan}
use Rattle.homeo_build.specs.Plan.{IsObjectPlan}
use Rattle.homeo_site.specs.SiteView.{StartValue}
use Rattle.homeo_site.proofs.own_round.OwnRound.plan.Goals as goal

pub returns : goal.returns
returns c =
    let in' = c.self.inside in
    subst (λ (v : StartValue). IsObjectPlan (plain_workload v.work) v.base c.deref.result.now) c.self.view_is
    (subst (λ (p : ObjectPlan). IsObjectPlan (plain_workload in'.compiled.value) in'.plan.value.base.items p) (sym c.deref.ensures)
    c.self.invariant.round.plan)
