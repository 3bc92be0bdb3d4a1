use Rattle.std.proofs.Common.{◌≡◌, ◌++◌, take}
use Rattle.homeo_print_workload.proofs.Behind.{settings_behind}
use Rattle.homeo_print_workload.proofs.commands.push_settings.Given as goal

abbrev pub invariant-loop-setting : goal.invariant-loop-setting
invariant-loop-setting l = l.out ≡ l.initial.out ++ settings_behind (take l.setting-index l.more)
