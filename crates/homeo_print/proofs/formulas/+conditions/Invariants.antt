use Rattle.std.proofs.Common.{◌≡◌, ◌++◌, take}
use Rattle.homeo_syntax.specs.SourceView.{plain_workload}
use Rattle.homeo_print.proofs.FormulaSteps.{tests_behind}
use Rattle.homeo_print.proofs.formulas.+conditions.Given as goal

abbrev pub invariant-push_tests-loop-t : goal.invariant-push_tests-loop-t
invariant-push_tests-loop-t l = l.out.items ≡ l.initial.out.items ++ tests_behind (plain_workload l.w) (take l.t-index l.more)
