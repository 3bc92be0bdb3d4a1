use Rattle.std.proofs.Common.{◌≡◌, ◌++◌, true, map, drop}
use Rattle.homeo_syntax.specs.SourceView.{plain_field}
use Rattle.homeo_meaning.specs.Acceptance.{weight_limit}
use Rattle.homeo_meaning.specs.Schema.{declared_range}
use Rattle.homeo_meaning.specs.Meaning.{settings}
use Rattle.homeo_eval.specs.inner.CanRun.{values_fit}
use Rattle.homeo_context.specs.Contexts.{plain_context}
use Rattle.homeo_eval.specs.inner.States.{state_of}
use Rattle.homeo_eval.specs.inner.Settings.{plain_setting}
use Rattle.homeo_eval.proofs.inserts.settings.Given as goal

abbrev pub invariant-loop-setting : goal.invariant-loop-setting
invariant-loop-setting l =
    let x = plain_context l.context in
    let s = state_of l.state in
    let ds = map declared_range l.slots.fields.now in
    record {
      fits : values_fit weight_limit x (map plain_field (drop l.setting-index l.values)) s ≡ true;
      left : map plain_setting l.all.items ++ settings x ds (map plain_field (drop l.setting-index l.values)) s ≡ settings x ds (map plain_field l.values) s;
    }
