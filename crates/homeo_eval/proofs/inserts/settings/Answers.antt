use Rattle.std.proofs.Common.{rules, map, ◌∙◌}
use Rattle.homeo_meaning.specs.Acceptance.{weight_limit}
use Rattle.homeo_meaning.specs.Schema.{declared_range}
use Rattle.homeo_context.specs.Contexts.{plain_context}
use Rattle.homeo_eval.specs.inner.States.{state_of}
use Rattle.homeo_eval.specs.inner.Settings.{plain_setting}
use Rattle.homeo_eval.proofs.InsertSteps.{value_step, setting_more, settings_all}
use Rattle.homeo_meaning.proofs.Numbers.{kept_is}
use Rattle.homeo_eval.proofs.inserts.settings.Goals as goal

pub value-requires : goal.value-requires
value-requires c =
    (value_step weight_limit (plain_context c.args.context.now) (state_of c.args.state.now) c.args.values.now c.loop-setting.setting-index c.setting-item.result c.loop-setting-test.true c.setting-item.is c.loop-setting.invariant.fits).fits

pub loop-setting-preserved : goal.loop-setting-preserved
loop-setting-preserved c =
    let x = plain_context c.args.context.now in
    let s = state_of c.args.state.now in
    let ds = map declared_range c.args.slots.now.fields.now in
    let step = value_step weight_limit x s c.args.values.now c.loop-setting.setting-index c.setting-item.result c.loop-setting-test.true c.setting-item.is c.loop-setting.invariant.fits in
    record {
      fits = step.rest;
      left = setting_more x ds s c.args.values.now c.loop-setting.setting-index c.setting-item.result c.loop-setting.all.items c.push.new.self.items _ _ c.loop-setting-test.true c.setting-item.is c.in_ok-push.ensures.items c.field.ensures (kept_is c.value.result _ (search rules) c.value.ensures) c.loop-setting.invariant.left;
    }

pub returns : goal.returns
returns c =
    settings_all (plain_context c.args.context.now) (map declared_range c.args.slots.now.fields.now) (state_of c.args.state.now) c.args.values.now c.loop-setting.setting-index (map plain_setting c.loop-setting.all.items) c.loop-setting-test.false
    ∙ c.loop-setting.invariant.left
