use Rattle.std.proofs.Common.{◌≡◌, ◌++◌, take}
use Rattle.homeo_print_workload.proofs.Behind.{terms_behind, factors_behind, tests_behind}
use Rattle.homeo_print_workload.proofs.phrases.+phrases.Given as goal

abbrev pub invariant-push_sum-loop-e : goal.invariant-push_sum-loop-e
invariant-push_sum-loop-e l = l.out ≡ l.initial.out ++ terms_behind (take l.e-index l.more)

abbrev pub invariant-push_product-loop-e : goal.invariant-push_product-loop-e
invariant-push_product-loop-e l = l.out ≡ l.initial.out ++ factors_behind (take l.e-index l.more)

abbrev pub invariant-push_cond-loop-t : goal.invariant-push_cond-loop-t
invariant-push_cond-loop-t l = l.out ≡ l.initial.out ++ tests_behind (take l.t-index l.more)
