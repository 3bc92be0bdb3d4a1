-- The difference is made of its two terms.
use Rattle.std.proofs.Common.{[], map, ap, ◌∙◌}
use Rattle.std.proofs.lemmas.Result.{IfOk-at_ok}
use Rattle.homeo_syntax.specs.Key.{definitions as syntax_definitions}
use Rattle.homeo_syntax.specs.Source as s
use Rattle.homeo_syntax.specs.SourceView.{exprs, plain_expr}
use Rattle.homeo_syntax.specs.declared.phrase.Expr.{Read, Neg}
use Rattle.homeo_syntax.proofs.SourceViews.{plain_Name, plain_Read, plain_Sum, plain_Neg}
use Rattle.homeo_plan_tests.specs.inner.Example.{name}
use Rattle.homeo_plan_tests.proofs.Example.{pushed}
use Rattle.homeo_plan_tests.proofs.evaluation.stock_less_amount.Goals as goal

pub returns : goal.returns
unfolding syntax_definitions
returns g c =
    let one = pushed c.new-terms.result c.push.new.self [] (Read (name 0)) (ap (λ l. l.items) c.new-terms.ensures) (IfOk-at_ok _ c.expect.ensures c.push.ensures.ok) in
    let two = pushed c.push.new.self c.push-2.new.self _ (Neg c.expect-amount.result) one (IfOk-at_ok _ c.expect-2.ensures c.push-2.ensures.ok) in
    let amount = plain_Neg c.expect-amount.result ∙ ap (λ e. s.Neg (plain_expr e)) (IfOk-at_ok _ c.expect-amount.ensures c.new.ensures.ok) ∙ ap s.Neg (plain_Name (name 2)) in
    plain_Sum c.push-2.new.self
    ∙ ap (λ es. s.Sum (exprs (map plain_expr es))) two
    ∙ (λ i. s.Sum (s.MoreExpr (plain_Read (name 0) i) (s.MoreExpr (amount i) s.NoExpr)))
