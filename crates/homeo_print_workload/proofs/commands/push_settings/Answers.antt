use Rattle.std.proofs.Common.{List, map, arith}
use Rattle.homeo_syntax.specs.SourceView.{plain_field}
use Rattle.homeo_syntax.specs.declared.token.Mark.TheVariants as mark
use Rattle.homeo_syntax.specs.declared.command.FieldValue.{FieldValue}
use Rattle.homeo_print_workload.specs.TokensOf.{Kinds, separated, setting_kinds}
use Rattle.homeo_print_workload.proofs.Behind.{settings_behind}
use Rattle.homeo_print.proofs.Listed.{list_end, list_none, list_start}
use Rattle.homeo_print_workload.proofs.CommandSteps.{no_settings, no_setting, settings_are}
use Rattle.homeo_print_workload.proofs.commands.push_settings.Goals as goal

abbrev one : FieldValue → Kinds
one f = setting_kinds (plain_field f)

abbrev all : List FieldValue → Kinds
all fs = separated mark.Comma (map setting_kinds (map plain_field fs))

pub loop-setting-init : goal.loop-setting-init
loop-setting-init c = list_start one settings_behind all no_settings c.push_setting.new.out

pub returns-in-empty : goal.returns-in-empty
returns-in-empty c = record { pushed = list_none one settings_behind all no_setting c.args.out.now c.args.settings.now (omega arith) }

pub returns-after-loop-setting : goal.returns-after-loop-setting
returns-after-loop-setting c = record {
  pushed = list_end one settings_behind all settings_are c.loop-setting.out c.push_setting.new.out c.args.out.now c.args.settings.now c.first-item.result c.loop-setting.setting-index
      (omega arith) c.first-item.is c.in_ok-push_setting-in-len1-up.ensures.pushed c.loop-setting-test.false c.loop-setting.invariant;
}
