-- The loops read what the repetitions read.
use Rattle.std.proofs.Common.{List, refl, sym, ap, ◌∙◌}
use Rattle.std.specs.Prelude.{Ok}
use Rattle.homeo_syntax.specs.declared.phrase.Expr.{Expr}
use Rattle.homeo_syntax.specs.Listed.{Listed}
use Rattle.homeo_syntax.specs.Grammar.{alt}
use Rattle.homeo_syntax.specs.SourceView.{plain_expr, plain_test}
use Rattle.homeo_reader.specs.inner.Reading.{expr_views, factors_read, terms_read, tests_read, next_factor_read, next_term_read, next_test_read}
use Rattle.homeo_reader.proofs.Lists.{star_factor, plus_term, minus_term, and_test}
use Rattle.homeo_reader.proofs.Repeated.{each, goes_on, fewer, ends, fails}
use Rattle.homeo_reader.proofs.parser.Parser.+expr.Goals as goal

pub factors-more-preserved : goal.factors-more-preserved
unfolding factors_read next_factor_read
factors-more-preserved t c =
    goes_on c.args.room (each plain_expr) star_factor refl _ _ _ _ _ _ _ c.in_ok-item.ensures c.in-Some.is c.in_ok-push.ensures.items c.more.invariant

pub factors-more-smaller : goal.factors-more-smaller
unfolding next_factor_read
factors-more-smaller t c = fewer c.args.room (each plain_expr) star_factor refl _ _ _ _ c.in_ok-item.ensures c.in-Some.is

pub factors-returns : goal.factors-returns
unfolding factors_read next_factor_read
factors-returns t c =
    ends c.args.room (each plain_expr) star_factor refl _ _ _ _ _ c.in_ok-item.ensures c.in_default.is c.more.invariant
    ∙ ap (λ (es : List Expr). Ok (expr_views es, c.next_factor.new.self.rest.now)) (sym (ap (λ (l : Listed Expr). l.items) c.from_vec.ensures ∙ c.shrink_to_fit.ensures.items))

pub factors-returns-in_err-item : goal.factors-returns-in_err-item
unfolding factors_read next_factor_read
factors-returns-in_err-item t c =
    fails c.args.room (each plain_expr) star_factor refl _ _ _ _ _ _ _ c.in_err-item.ensures c.from_residual-in_err-item.ensures.1 c.more.invariant

pub terms-more-preserved : goal.terms-more-preserved
unfolding terms_read next_term_read
terms-more-preserved t c =
    goes_on c.args.room (each plain_expr) (alt plus_term minus_term) refl _ _ _ _ _ _ _ c.in_ok-item.ensures c.in-Some.is c.in_ok-push.ensures.items
    c.more.invariant

pub terms-more-smaller : goal.terms-more-smaller
unfolding next_term_read
terms-more-smaller t c = fewer c.args.room (each plain_expr) (alt plus_term minus_term) refl _ _ _ _ c.in_ok-item.ensures c.in-Some.is

pub terms-returns : goal.terms-returns
unfolding terms_read next_term_read
terms-returns t c =
    ends c.args.room (each plain_expr) (alt plus_term minus_term) refl _ _ _ _ _ c.in_ok-item.ensures c.in_default.is c.more.invariant
    ∙ ap (λ (es : List Expr). Ok (expr_views es, c.next_term.new.self.rest.now)) (sym (ap (λ (l : Listed Expr). l.items) c.from_vec.ensures ∙ c.shrink_to_fit.ensures.items))

pub terms-returns-in_err-item : goal.terms-returns-in_err-item
unfolding terms_read next_term_read
terms-returns-in_err-item t c =
    fails c.args.room (each plain_expr) (alt plus_term minus_term) refl _ _ _ _ _ _ _ c.in_err-item.ensures c.from_residual-in_err-item.ensures.1 c.more.invariant

pub tests-more-preserved : goal.tests-more-preserved
unfolding tests_read next_test_read
tests-more-preserved t c =
    goes_on c.args.room (each plain_test) and_test refl _ _ _ _ _ _ _ c.in_ok-item.ensures c.in-Some.is c.in_ok-append.ensures.items c.more.invariant

pub tests-more-smaller : goal.tests-more-smaller
unfolding next_test_read
tests-more-smaller t c = fewer c.args.room (each plain_test) and_test refl _ _ _ _ c.in_ok-item.ensures c.in-Some.is

pub tests-returns : goal.tests-returns
unfolding tests_read next_test_read
tests-returns t c = ends c.args.room (each plain_test) and_test refl _ _ _ _ _ c.in_ok-item.ensures c.in_default.is c.more.invariant

pub tests-returns-in_err-item : goal.tests-returns-in_err-item
unfolding tests_read next_test_read
tests-returns-in_err-item t c =
    fails c.args.room (each plain_test) and_test refl _ _ _ _ _ _ _ c.in_err-item.ensures c.from_residual.ensures.1 c.more.invariant
