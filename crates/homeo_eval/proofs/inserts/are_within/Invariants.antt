use Rattle.std.proofs.Common.{◌≡◌, map, drop}
use Rattle.homeo_meaning.specs.Meaning.{are_within}
use Rattle.homeo_eval.specs.inner.Settings.{plain_setting}
use Rattle.homeo_eval.proofs.inserts.are_within.Given as goal

abbrev pub invariant-loop-setting : goal.invariant-loop-setting
invariant-loop-setting l = are_within (map plain_setting (drop l.setting-index l.settings)) ≡ are_within (map plain_setting l.settings)
