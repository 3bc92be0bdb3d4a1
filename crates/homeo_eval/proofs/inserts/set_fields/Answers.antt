use Rattle.std.proofs.Common.{rules, refl, sym, ◌∙◌}
use Rattle.homeo_meaning.specs.Key.{definitions}
use Rattle.homeo_context.specs.Slots.{plain_slot}
use Rattle.homeo_eval.specs.inner.States.{state_of}
use Rattle.homeo_eval.proofs.InsertSteps.{field_set, fields_set}
use Rattle.homeo_meaning.proofs.Numbers.{kept_is}
use Rattle.homeo_eval.proofs.inserts.set_fields.Goals as goal

pub loop-setting-preserved : goal.loop-setting-preserved
unfolding definitions
loop-setting-preserved c = record {
  places = c.set_cell.ensures.places ∙ c.loop-setting.invariant.places;
  left = field_set (plain_slot c.args.slot.now) c.args.settings.now c.loop-setting.setting-index _ (state_of c.loop-setting.state) _ _ c.loop-setting-test.true (kept_is _ _ (search rules) refl) c.set_cell.ensures.set ∙ c.loop-setting.invariant.left;
}

pub returns-clause-set : goal.returns-clause-set
returns-clause-set c =
    sym (fields_set (plain_slot c.args.slot.now) c.args.settings.now c.loop-setting.setting-index (state_of c.loop-setting.state) c.loop-setting-test.false) ∙ c.loop-setting.invariant.left
