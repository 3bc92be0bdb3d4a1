-- The transaction has its parameter and its two commands.
use Rattle.std.proofs.Common.{[], map, ap, ◌∙◌}
use Rattle.std.proofs.lemmas.Result.{IfOk-at_ok}
use Rattle.homeo_syntax.specs.Key.{definitions as syntax_definitions}
use Rattle.homeo_syntax.specs.Source as s
use Rattle.homeo_syntax.specs.SourceView.{commands, plain_command}
use Rattle.homeo_syntax.specs.declared.phrase.Expr.{Read}
use Rattle.homeo_syntax.specs.declared.command.Command.{Write, Print}
use Rattle.homeo_syntax.proofs.SourceViews.{plain_Read, plain_Write, plain_Print}
use Rattle.homeo_plan_tests.specs.inner.Example.{name}
use Rattle.homeo_plan_tests.proofs.Example.{pushed}
use Rattle.homeo_plan_tests.proofs.evaluation.sale_of_1_to_3.Goals as goal

pub returns : goal.returns
unfolding syntax_definitions
returns g c =
    let value = c.stock_less_amount-value.result in
    let params = pushed c.new-params.result c.push.new.self [] _ (ap (λ l. l.items) c.new-params.ensures) (IfOk-at_ok _ c.expect.ensures c.push.ensures.ok) in
    let one = pushed c.new-body.result c.push-2.new.self [] (Write (name 0) value) (ap (λ l. l.items) c.new-body.ensures) (IfOk-at_ok _ c.expect-2.ensures c.push-2.ensures.ok) in
    let two = pushed c.push-2.new.self c.push-3.new.self _ (Print (Read (name 0))) one (IfOk-at_ok _ c.expect-3.ensures c.push-3.ensures.ok) in
    let written = plain_Write (name 0) value ∙ ap (s.Write (name 0)) c.stock_less_amount-value.ensures in
    let printed = plain_Print (Read (name 0)) ∙ ap s.Print (plain_Read (name 0)) in
    let body = ap (λ cs. commands (map plain_command cs)) two ∙ (λ i. s.MoreCommand (written i) (s.MoreCommand (printed i) s.NoCommand)) in
    λ i. record { name = name 1; params = params i; body = body i }
