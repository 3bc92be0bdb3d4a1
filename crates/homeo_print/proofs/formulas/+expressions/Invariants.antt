use Rattle.std.proofs.Common.{◌≡◌, ◌++◌, take}
use Rattle.homeo_syntax.specs.SourceView.{plain_workload}
use Rattle.homeo_print.proofs.FormulaSteps.{terms_behind, factors_behind}
use Rattle.homeo_print.proofs.formulas.+expressions.Given as goal

abbrev pub invariant-push_sum-loop-e : goal.invariant-push_sum-loop-e
invariant-push_sum-loop-e l = l.out.items ≡ l.initial.out.items ++ terms_behind (plain_workload l.w) (take l.e-index l.more)

abbrev pub invariant-push_product-loop-e : goal.invariant-push_product-loop-e
invariant-push_product-loop-e l = l.out.items ≡ l.initial.out.items ++ factors_behind (plain_workload l.w) (take l.e-index l.more)
