use Rattle.std.proofs.Common.{◌≡◌, sym, ap, subst, ◌∙◌}
use Rattle.std.specs.Prelude.{IfOk}
use Rattle.std.specs.Cmp.Rules.{signed_items}
use Rattle.homeo_outline.specs.declared.plan.ObjectPlan.{ObjectPlan}
use Rattle.homeo_site.proofs.planner.Planner.start.Goals as goal

pub returns-then-eq-clause-start : goal.returns-then-eq-clause-start
returns-then-eq-clause-start c =
    let same : c.in-Some.plan.value.base.items ≡ c.args.base.now.items = ap (λ (p : ObjectPlan). p.base.items) (sym c.deref.ensures) ∙ sym c.as_slice.ensures ∙ (signed_items _ _).0 (sym c.eq.ensures ∙ c.if-eq.true) ∙ c.as_slice-in-Some.ensures in
    let made = subst (λ v. IfOk c.new.result (λ s. s ≡ record { work = v; number = c.args.site; round = c.args.round; base = c.in-Some.plan.value.base.items })) c.self.view_is c.new.ensures in
    subst (λ b. IfOk c.new.result (λ s. s ≡ record { work = c.args.self.now; number = c.args.site; round = c.args.round; base = b })) same made
