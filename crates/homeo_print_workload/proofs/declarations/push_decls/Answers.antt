use Rattle.std.proofs.Common.{List, ◌-◌, length, map, take, drop, arith}
use Rattle.homeo_syntax.specs.declared.token.Mark.TheVariants as mark
use Rattle.homeo_syntax.specs.declared.workload.RangeDecl.{RangeDecl}
use Rattle.homeo_print_workload.specs.Key.{definitions}
use Rattle.homeo_print_workload.specs.TokensOf.{Kinds, separated, decl_kinds}
use Rattle.homeo_print_workload.proofs.Behind.{decls_behind}
use Rattle.homeo_print.proofs.Listed.{list_none, list_start}
use Rattle.homeo_print_workload.proofs.Led.{list_end_copy, list_more}
use Rattle.homeo_print_workload.proofs.DeclarationSteps.{no_decls_behind, no_decl, decls_are}
use Rattle.homeo_print_workload.proofs.declarations.push_decls.Goals as goal

abbrev one : RangeDecl → Kinds
one x = decl_kinds x

abbrev all : List RangeDecl → Kinds
all xs = separated mark.Comma (map decl_kinds xs)

pub loop-d-init : goal.loop-d-init
loop-d-init c = list_start one decls_behind all no_decls_behind c.push_decl.new.out

pub returns-in-empty : goal.returns-in-empty
returns-in-empty c = record { pushed = list_none one decls_behind all no_decl c.args.out.now c.args.ds.now (omega arith) }

pub loop-d-preserved : goal.loop-d-preserved
unfolding definitions
loop-d-preserved c =
    list_more mark.Comma one (take (length c.args.ds.now - 1) (drop 1 c.args.ds.now)) c.loop-d.d-index _ c.push_decl.new.out c.loop-d.out c.mark.new.self c.push_decl-in-loop-d.new.out c.loop-d-test.true c.loop-d.invariant
    c.in_ok-mark-in-len1-up.ensures.pushed c.in_ok-push_decl-in-len1-up-2.ensures.pushed

pub returns-after-loop-d : goal.returns-after-loop-d
returns-after-loop-d c = record {
  pushed = list_end_copy one decls_behind all decls_are c.loop-d.out c.push_decl.new.out c.args.out.now c.args.ds.now _ c.loop-d.d-index
      (omega arith) c.in_ok-push_decl-in-len1-up.ensures.pushed c.loop-d-test.false c.loop-d.invariant;
}
