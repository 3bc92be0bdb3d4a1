use Rattle.std.proofs.Common.{List, map, arith}
use Rattle.homeo_syntax.specs.SourceView.{plain_call}
use Rattle.homeo_syntax.specs.declared.token.Mark.TheVariants as mark
use Rattle.homeo_syntax.specs.declared.workload.Call.{Call}
use Rattle.homeo_print_workload.specs.TokensOf.{Kinds, separated, call_kinds}
use Rattle.homeo_print_workload.proofs.Behind.{calls_behind}
use Rattle.homeo_print.proofs.Listed.{list_end, list_none, list_start}
use Rattle.homeo_print_workload.proofs.DeclarationSteps.{no_calls_behind, no_call, calls_are}
use Rattle.homeo_print_workload.proofs.declarations.push_calls.Goals as goal

abbrev one : Call → Kinds
one x = call_kinds (plain_call x)

abbrev all : List Call → Kinds
all xs = separated mark.Semicolon (map call_kinds (map plain_call xs))

pub loop-c-init : goal.loop-c-init
loop-c-init c = list_start one calls_behind all no_calls_behind c.push_call.new.out

pub returns-in-empty : goal.returns-in-empty
returns-in-empty c = record { pushed = list_none one calls_behind all no_call c.args.out.now c.args.cs.now (omega arith) }

pub returns-after-loop-c : goal.returns-after-loop-c
returns-after-loop-c c = record {
  pushed = list_end one calls_behind all calls_are c.loop-c.out c.push_call.new.out c.args.out.now c.args.cs.now c.first-item.result c.loop-c.c-index
      (omega arith) c.first-item.is c.in_ok-push_call-in-len1-up.ensures.pushed c.loop-c-test.false c.loop-c.invariant;
}
