use Rattle.std.proofs.Common.{◌≡◌, true, pos, map, drop}
use Rattle.homeo_syntax.specs.SourceView.{exprs, tests, plain_expr, plain_test, plain_cond}
use Rattle.homeo_meaning.specs.Acceptance.{weight_limit}
use Rattle.homeo_meaning.specs.Meaning.{added, sum_value, product_value, holds}
use Rattle.homeo_eval.specs.inner.CanRun.{adding_fits, sum_fits, product_fits, cond_fits}
use Rattle.homeo_context.specs.Contexts.{plain_context}
use Rattle.homeo_eval.specs.inner.States.{state_of}
use Rattle.homeo_eval.specs.inner.Terms.{term_of, counts, row_fits}
use Rattle.homeo_context.proofs.SlotLists.{left}
use Rattle.homeo_eval.proofs.phrases.+phrases.Given as goal

abbrev pub invariant-sum-loop-e : goal.invariant-sum-loop-e
invariant-sum-loop-e l =
    let x = plain_context l.context in
    let s = state_of l.state in
    let rest = exprs (map plain_expr (drop l.e-index l.es)) in
    record {
      fits : sum_fits weight_limit x rest s l.total ≡ true;
      left : sum_value x rest s l.total ≡ sum_value x (exprs (map plain_expr l.es)) s (pos 0);
    }

abbrev pub invariant-product-loop-e : goal.invariant-product-loop-e
invariant-product-loop-e l =
    let x = plain_context l.context in
    let s = state_of l.state in
    let rest = exprs (map plain_expr (drop l.e-index l.es)) in
    record {
      fits : product_fits weight_limit x rest s l.total ≡ true;
      left : product_value x rest s l.total ≡ product_value x (exprs (map plain_expr l.es)) s (pos 1);
    }

abbrev pub invariant-all_pass-loop-t : goal.invariant-all_pass-loop-t
invariant-all_pass-loop-t l =
    let x = plain_context l.context in
    let s = state_of l.state in
    let rest = tests (map plain_test (drop l.t-index l.ts)) in
    record {
      fits : cond_fits weight_limit x rest s ≡ true;
      left : holds x rest s ≡ holds x (tests (map plain_test l.ts)) s;
    }

abbrev pub invariant-total-loop-number : goal.invariant-total-loop-number
invariant-total-loop-number l =
    let x = plain_context l.context in
    let s = state_of l.state in
    let c = plain_cond l.test in
    record {
      fits : adding_fits weight_limit (row_fits weight_limit x l.row c s) (counts x l.row c s) (term_of l.term s) (left l.slots l.number) l.total ≡ true;
      left : added (counts x l.row c s) (term_of l.term s) (left l.slots l.number) l.total ≡ added (counts x l.row c s) (term_of l.term s) (left l.slots 0) (pos 0);
    }
