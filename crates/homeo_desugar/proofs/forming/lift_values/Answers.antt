-- One value more is put into a fresh temporary.
use Rattle.std.proofs.Common.{◌++◌, map, refl, ap, ◌∙◌}
use Rattle.homeo_syntax.specs.SourceView.{plain_expr, plain_field}
use Rattle.homeo_syntax.specs.LowView.{plain_lexpr}
use Rattle.homeo_syntax.proofs.LowViews.{low_Assign}
use Rattle.homeo_meaning.specs.Schema.{declared_range}
use Rattle.homeo_meaning.specs.Context.{Spot, spot}
use Rattle.homeo_meaning.specs.LForm.{lift, lift_values}
use Rattle.homeo_desugar.specs.inner.Key.{definitions}
use Rattle.homeo_desugar.specs.inner.Made.{plain_target}
use Rattle.homeo_context.specs.Contexts.{plain_context}
use Rattle.homeo_desugar.proofs.Forms.{stored_lifted, values_step, values_end, within_none, within_push}
use Rattle.homeo_desugar.proofs.Makings.{pushed_after}
use Rattle.homeo_desugar.proofs.Places.{field_within}
use Rattle.homeo_desugar.proofs.forming.lift_values.Goals as goal

pub loop-value-init : goal.loop-value-init
loop-value-init c =
    let whole = lift_values (plain_context c.args.context.now) (map declared_range c.args.fields.now) (map plain_field c.args.values.now) c.args.out.now.next in
    record {
      lifted = record { phrase = ap (λ l. map plain_target l ++ whole.phrase) c.new-targets.ensures.items; commands = refl; next = refl };
      within = within_none c.args.fields.now c.new-targets.result.items c.new-targets.ensures.items;
    }

pub loop-value-preserved : goal.loop-value-preserved
unfolding definitions
loop-value-preserved c =
    let x = plain_context c.args.context.now in
    let ds = map declared_range c.args.fields.now in
    let v = c.value-item.result in
    let f = spot ds v.field.name in
    let now = c.loop-value.out in
    let mid = c.lift.new.out in
    let new = c.push.new.self in
    let t = c.in_ok-temp.temp in
    let pushed = pushed_after mid c.fresh.new.self new _ c.in_ok-temp.ensures.commands c.in_ok-push.ensures.pushed in
    let assigned = low_Assign _ _ in
    let target = ap (λ (b : Spot). record { field = b; temp = t }) c.find_field.ensures in
    let stored = stored_lifted f now mid new (lift x (plain_expr v.value) now.next) (plain_lexpr c.in_ok-lifted.lifted) t _ _ c.in_ok-lifted.ensures c.in_ok-temp.ensures.taken (c.in_ok-push.ensures.next ∙ c.in_ok-temp.ensures.next) pushed assigned target in
    record {
      lifted = values_step x ds c.args.values.now c.loop-value.value-index v c.args.out.now now new c.loop-value.targets.items c.push-in-loop-value.new.self.items _ _ c.loop-value-test.true c.value-item.is stored c.in_ok-push-2.ensures.items c.loop-value.invariant.lifted;
      within = within_push c.args.fields.now c.loop-value.targets.items c.push-in-loop-value.new.self.items _ c.in_ok-push-2.ensures.items c.loop-value.invariant.within (field_within c.args.fields.now v.field.name c.find_field.result.place (ap (λ (s : Spot). s.place) c.find_field.ensures));
    }

pub returns-clause-lifted : goal.returns-clause-lifted
returns-clause-lifted c =
    values_end (plain_context c.args.context.now) (map declared_range c.args.fields.now) c.args.values.now c.loop-value.value-index c.args.out.now c.loop-value.out c.loop-value.targets.items _ c.loop-value-test.false c.loop-value.invariant.lifted
