-- The form at the place is that of a ground call, which can be followed at the round's base.
use Rattle.std.proofs.Common.{◌≡◌, ◌<◌, length, slice_get, Some, sym, ap, ◌∙◌, subst}
use Rattle.std.proofs.lemmas.Result.{IfOk-weaker}
use Rattle.homeo_syntax.specs.LowView.{plain_lcommand}
use Rattle.homeo_syntax.specs.SourceView.{plain_workload}
use Rattle.homeo_syntax.specs.declared.workload.Workload.{Workload}
use Rattle.homeo_meaning.specs.Ground.{grounds}
use Rattle.homeo_meaning.specs.Serial.{values_of}
use Rattle.homeo_meaning.specs.Small.{IsSmall}
use Rattle.homeo_outline.specs.declared.plan.ObjectPlan.{ObjectPlan}
use Rattle.homeo_plan.specs.Limit.{form_limit}
use Rattle.homeo_plan.specs.Planned.{planned}
use Rattle.homeo_plan.specs.Template.{PlannedCall}
use Rattle.homeo_follow.specs.Follow.{object_forms}
use Rattle.homeo_follow.specs.FollowSizes.{CanBeFollowed}
use Rattle.homeo_site.specs.SiteView.{StartValue}
use Rattle.homeo_site.proofs.FollowedCalls.{can_follow, effect_there}
use Rattle.homeo_site.proofs.own_round.OwnRound.effect.Goals as goal

pub effect-requires : goal.effect-requires
effect-requires c =
    let in' = c.self.inside in
    let base = c.new-follower.ensures ∙ ap (λ (p : ObjectPlan). p.base.items) c.deref-2.ensures in
    subst (λ b. CanBeFollowed (IsSmall form_limit) (object_forms (values_of b)) (plain_lcommand c.form-form.result.now)) (sym base)
    (can_follow (plain_workload in'.compiled.value) in'.plan.value.base.items c.args.place (plain_lcommand c.form-form.result.now)
    c.self.invariant.round.accepted c.self.invariant.round.plan.within
    (subst (λ (v : StartValue). c.args.place < length (grounds (plain_workload v.work))) (sym c.self.view_is) c.requires)
    (subst
    (λ (z : Workload). (g : PlannedCall) → slice_get (planned (plain_workload z)) c.args.place ≡ Some g → plain_lcommand c.form-form.result.now ≡ g.command)
    c.deref.ensures c.form-form.ensures))

pub returns : goal.returns
returns c =
    let base = c.new-follower.ensures ∙ ap (λ (p : ObjectPlan). p.base.items) c.deref-2.ensures ∙ ap (λ (v : StartValue). v.base) c.self.view_is in
    IfOk-weaker c.effect.result _ _
    (λ o. effect_there c.args.self.now c.args.place (plain_lcommand c.form-form.result.now) c.new-follower.result.base.now o base
    (subst
    (λ (z : Workload). (g : PlannedCall) → slice_get (planned (plain_workload z)) c.args.place ≡ Some g → plain_lcommand c.form-form.result.now ≡ g.command)
    (c.deref.ensures ∙ ap (λ (v : StartValue). v.work) c.self.view_is) c.form-form.ensures)) c.effect.ensures.effect
