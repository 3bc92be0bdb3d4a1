use Rattle.std.proofs.Common.{◌≡◌, map, drop, length}
use Rattle.homeo_meaning.specs.Meaning.{set_fields}
use Rattle.homeo_context.specs.Slots.{plain_slot}
use Rattle.homeo_eval.specs.inner.States.{state_of}
use Rattle.homeo_eval.specs.inner.Settings.{plain_setting}
use Rattle.homeo_eval.proofs.inserts.set_fields.Given as goal

abbrev pub invariant-loop-setting : goal.invariant-loop-setting
invariant-loop-setting l = record {
  places : length l.state.database.items ≡ length l.fn.state.database.items;
  left : set_fields (plain_slot l.slot) (map plain_setting (drop l.setting-index l.settings)) (state_of l.state) ≡ set_fields (plain_slot l.slot) (map plain_setting l.settings) (state_of l.fn.state);
}
