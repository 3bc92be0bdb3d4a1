use Rattle.std.proofs.Common.{List, ℕ, map, arith}
use Rattle.homeo_syntax.specs.Source as s
use Rattle.homeo_syntax.specs.SourceView.{plain_workload}
use Rattle.homeo_syntax.specs.LowView.{low_exprs, plain_lexpr}
use Rattle.homeo_syntax.specs.declared.low.LExpr.{LExpr}
use Rattle.homeo_print.specs.declared.position.Position.TheVariants as position
use Rattle.homeo_print.specs.Tables.{sum_text, product_text}
use Rattle.homeo_print.specs.inner.Walk.{expr_text_in}
use Rattle.homeo_print.proofs.FormulaSteps.{terms_behind, factors_behind, no_terms, no_factors, no_sum, no_product, sum_is, product_is}
use Rattle.homeo_print.proofs.Listed.{list_end, list_none, list_start}
use Rattle.homeo_print.proofs.formulas.+expressions.Goals as goal

abbrev term : s.Workload → LExpr → List ℕ
term w e = expr_text_in w position.AsTerm (plain_lexpr e)

abbrev factor : s.Workload → LExpr → List ℕ
factor w e = expr_text_in w position.AsFactor (plain_lexpr e)

abbrev sum : s.Workload → List LExpr → List ℕ
sum w es = sum_text w (low_exprs (map plain_lexpr es))

abbrev product : s.Workload → List LExpr → List ℕ
product w es = product_text w (low_exprs (map plain_lexpr es))

pub push_sum-loop-e-init : goal.push_sum-loop-e-init
push_sum-loop-e-init t c =
    let w = plain_workload c.args.w.now in
    list_start (term w) (terms_behind w) (sum w) (no_terms w) c.push_expr.new.out.items

pub push_product-loop-e-init : goal.push_product-loop-e-init
push_product-loop-e-init t c =
    let w = plain_workload c.args.w.now in
    list_start (factor w) (factors_behind w) (product w) (no_factors w) c.push_expr.new.out.items

pub push_sum-returns-in-empty : goal.push_sum-returns-in-empty
push_sum-returns-in-empty t c =
    let w = plain_workload c.args.w.now in
    list_none (term w) (terms_behind w) (sum w) (no_sum w) c.args.out.now.items c.args.es.now (omega arith)

pub push_product-returns-in-empty : goal.push_product-returns-in-empty
push_product-returns-in-empty t c =
    let w = plain_workload c.args.w.now in
    list_none (factor w) (factors_behind w) (product w) (no_product w) c.args.out.now.items c.args.es.now (omega arith)

pub push_sum-returns-after-loop-e : goal.push_sum-returns-after-loop-e
push_sum-returns-after-loop-e t c =
    let w = plain_workload c.args.w.now in
    list_end (term w) (terms_behind w) (sum w) (sum_is w) c.loop-e.out.items c.push_expr.new.out.items c.args.out.now.items c.args.es.now c.first-item.result c.loop-e.e-index
    (omega arith) c.first-item.is c.in_ok-push_expr-in-len1-up.ensures c.loop-e-test.false c.loop-e.invariant

pub push_product-returns-after-loop-e : goal.push_product-returns-after-loop-e
push_product-returns-after-loop-e t c =
    let w = plain_workload c.args.w.now in
    list_end (factor w) (factors_behind w) (product w) (product_is w) c.loop-e.out.items c.push_expr.new.out.items c.args.out.now.items c.args.es.now c.first-item.result c.loop-e.e-index
    (omega arith) c.first-item.is c.in_ok-push_expr-in-len1-up.ensures c.loop-e-test.false c.loop-e.invariant
