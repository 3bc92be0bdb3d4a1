use Rattle.std.proofs.Common.{List, ◌-◌, length, map, take, drop, arith}
use Rattle.homeo_syntax.specs.declared.token.Mark.TheVariants as mark
use Rattle.homeo_syntax.specs.declared.phrase.Number.{Number}
use Rattle.homeo_print_workload.specs.Key.{definitions}
use Rattle.homeo_print_workload.specs.TokensOf.{Kinds, separated, number_of}
use Rattle.homeo_print_workload.proofs.Behind.{numbers_behind}
use Rattle.homeo_print.proofs.Listed.{list_none, list_start}
use Rattle.homeo_print_workload.proofs.Led.{list_end_copy, list_more}
use Rattle.homeo_print_workload.proofs.DeclarationSteps.{no_numbers_behind, no_number, numbers_are}
use Rattle.homeo_print_workload.proofs.declarations.push_numbers.Goals as goal

abbrev one : Number → Kinds
one x = number_of x

abbrev all : List Number → Kinds
all xs = separated mark.Comma (map number_of xs)

pub loop-n-init : goal.loop-n-init
loop-n-init c = list_start one numbers_behind all no_numbers_behind c.push_number.new.out

pub returns-in-empty : goal.returns-in-empty
returns-in-empty c = record { pushed = list_none one numbers_behind all no_number c.args.out.now c.args.ns.now (omega arith) }

pub loop-n-preserved : goal.loop-n-preserved
unfolding definitions
loop-n-preserved c =
    list_more mark.Comma one (take (length c.args.ns.now - 1) (drop 1 c.args.ns.now)) c.loop-n.n-index _ c.push_number.new.out c.loop-n.out c.mark.new.self c.push_number-in-loop-n.new.out c.loop-n-test.true c.loop-n.invariant
    c.in_ok-mark-in-len1-up.ensures.pushed c.in_ok-push_number-in-len1-up-2.ensures.pushed

pub returns-after-loop-n : goal.returns-after-loop-n
returns-after-loop-n c = record {
  pushed = list_end_copy one numbers_behind all numbers_are c.loop-n.out c.push_number.new.out c.args.out.now c.args.ns.now _ c.loop-n.n-index
      (omega arith) c.in_ok-push_number-in-len1-up.ensures.pushed c.loop-n-test.false c.loop-n.invariant;
}
