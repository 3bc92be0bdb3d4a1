use Rattle.std.proofs.Common.{List, ◌++◌, map, sym, ap, ◌∙◌, arith}
use Rattle.homeo_syntax.specs.SourceView.{exprs, tests, plain_expr, plain_test}
use Rattle.homeo_syntax.specs.declared.phrase.Expr.{Expr}
use Rattle.homeo_syntax.specs.declared.phrase.Test.{Test}
use Rattle.homeo_print.specs.declared.position.Position.TheVariants as position
use Rattle.homeo_print_workload.specs.TokensOf.{Kinds, sum_kinds, product_kinds, test_kinds, cond_kinds}
use Rattle.homeo_print_workload.specs.inner.Walk.{expr_in}
use Rattle.homeo_print_workload.proofs.Behind.{terms_behind, factors_behind, tests_behind}
use Rattle.homeo_print.proofs.Listed.{list_end, list_none, list_start}
use Rattle.homeo_print_workload.proofs.PhraseSteps.{no_terms, no_factors, no_tests, no_sum, no_product, no_test, sum_is, product_is, cond_is, tests_are}
use Rattle.homeo_print_workload.proofs.phrases.+phrases.Goals as goal

abbrev term : Expr → Kinds
term e = expr_in position.AsTerm (plain_expr e)

abbrev factor : Expr → Kinds
factor e = expr_in position.AsFactor (plain_expr e)

abbrev test : Test → Kinds
test t = test_kinds (plain_test t)

abbrev sum : List Expr → Kinds
sum es = sum_kinds (exprs (map plain_expr es))

abbrev product : List Expr → Kinds
product es = product_kinds (exprs (map plain_expr es))

abbrev cond : List Test → Kinds
cond ts = cond_kinds (tests (map plain_test ts))

pub push_sum-loop-e-init : goal.push_sum-loop-e-init
push_sum-loop-e-init t c = list_start term terms_behind sum no_terms c.push_expr.new.out

pub push_product-loop-e-init : goal.push_product-loop-e-init
push_product-loop-e-init t c = list_start factor factors_behind product no_factors c.push_expr.new.out

pub push_cond-loop-t-init : goal.push_cond-loop-t-init
push_cond-loop-t-init t c = list_start test tests_behind cond no_tests c.push_test.new.out

pub push_sum-returns-in-empty : goal.push_sum-returns-in-empty
push_sum-returns-in-empty t c = record { pushed = list_none term terms_behind sum no_sum c.args.out.now c.args.es.now (omega arith) }

pub push_product-returns-in-empty : goal.push_product-returns-in-empty
push_product-returns-in-empty t c = record { pushed = list_none factor factors_behind product no_product c.args.out.now c.args.es.now (omega arith) }

pub push_cond-returns-in-empty : goal.push_cond-returns-in-empty
push_cond-returns-in-empty t c = record {
  pushed = list_none test tests_behind cond no_test c.args.out.now c.as_slice.result.now (omega arith)
      ∙ ap (λ l. c.args.out.now ++ l) (ap cond c.as_slice.ensures ∙ sym (tests_are c.args.c.now));
}

pub push_sum-returns-after-loop-e : goal.push_sum-returns-after-loop-e
push_sum-returns-after-loop-e t c = record {
  pushed = list_end term terms_behind sum sum_is c.loop-e.out c.push_expr.new.out c.args.out.now c.args.es.now c.first-item.result c.loop-e.e-index
      (omega arith) c.first-item.is c.in_ok-push_expr-in-len1-up.ensures.pushed c.loop-e-test.false c.loop-e.invariant;
}

pub push_product-returns-after-loop-e : goal.push_product-returns-after-loop-e
push_product-returns-after-loop-e t c = record {
  pushed = list_end factor factors_behind product product_is c.loop-e.out c.push_expr.new.out c.args.out.now c.args.es.now c.first-item.result c.loop-e.e-index
      (omega arith) c.first-item.is c.in_ok-push_expr-in-len1-up.ensures.pushed c.loop-e-test.false c.loop-e.invariant;
}

pub push_cond-returns-after-loop-t : goal.push_cond-returns-after-loop-t
push_cond-returns-after-loop-t t c = record {
  pushed = list_end test tests_behind cond cond_is c.loop-t.out c.push_test.new.out c.args.out.now c.as_slice.result.now c.first-item.result c.loop-t.t-index
      (omega arith) c.first-item.is c.in_ok-push_test-in-len1-up.ensures.pushed c.loop-t-test.false c.loop-t.invariant
      ∙ ap (λ l. c.args.out.now ++ l) (ap cond c.as_slice.ensures ∙ sym (tests_are c.args.c.now));
}
