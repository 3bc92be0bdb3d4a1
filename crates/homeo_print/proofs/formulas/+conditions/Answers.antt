use Rattle.std.proofs.Common.{◌++◌, List, ℕ, map, sym, ap, ◌∙◌, arith}
use Rattle.std.proofs.lemmas.Result.{on_ok_weaker}
use Rattle.homeo_syntax.specs.Source as s
use Rattle.homeo_syntax.specs.SourceView.{plain_workload}
use Rattle.homeo_syntax.specs.LowView.{low_tests, plain_ltest}
use Rattle.homeo_syntax.specs.declared.low.LTest.{LTest}
use Rattle.homeo_syntax.proofs.LowViews.{low_conjunction}
use Rattle.homeo_print.specs.Tables.{test_text, cond_text}
use Rattle.homeo_print.proofs.FormulaSteps.{tests_behind, no_tests, no_test, cond_is}
use Rattle.homeo_print.proofs.Listed.{list_end, list_start}
use Rattle.homeo_print.proofs.formulas.+conditions.Goals as goal

abbrev test : s.Workload → LTest → List ℕ
test w t = test_text w (plain_ltest t)

abbrev all : s.Workload → List LTest → List ℕ
all w ts = cond_text w (low_tests (map plain_ltest ts))

pub push_cond-returns : goal.push_cond-returns
push_cond-returns t c =
    let w = plain_workload c.args.w.now in
    on_ok_weaker c.push_tests.result
    (λ h. h ∙ ap (λ l. c.args.out.now.items ++ l) (ap (all w) c.as_slice.ensures ∙ ap (cond_text w) (sym (low_conjunction c.args.c.now))))
    c.push_tests.ensures

pub push_tests-loop-t-init : goal.push_tests-loop-t-init
push_tests-loop-t-init t c =
    let w = plain_workload c.args.w.now in
    list_start (test w) (tests_behind w) (all w) (no_tests w) c.push_test.new.out.items

pub push_tests-returns-in_ok-push_bytes-in-empty : goal.push_tests-returns-in_ok-push_bytes-in-empty
push_tests-returns-in_ok-push_bytes-in-empty t c =
    let w = plain_workload c.args.w.now in
    c.in_ok-push_bytes-in-empty.ensures ∙ ap (λ l. c.args.out.now.items ++ l) (sym (no_test w c.args.tests.now (omega arith)))

pub push_tests-returns-after-loop-t : goal.push_tests-returns-after-loop-t
push_tests-returns-after-loop-t t c =
    let w = plain_workload c.args.w.now in
    list_end (test w) (tests_behind w) (all w) (cond_is w) c.loop-t.out.items c.push_test.new.out.items c.args.out.now.items c.args.tests.now c.first-item.result c.loop-t.t-index
    (omega arith) c.first-item.is c.in_ok-push_test-in-len1-up.ensures c.loop-t-test.false c.loop-t.invariant
