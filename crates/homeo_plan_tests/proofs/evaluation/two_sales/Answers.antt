-- The client has its two calls.
use Rattle.std.proofs.Common.{[], ◌∷◌, pos, map, ap, ◌∙◌}
use Rattle.std.proofs.lemmas.Result.{IfOk-at_ok}
use Rattle.homeo_syntax.specs.Key.{definitions as syntax_definitions}
use Rattle.homeo_syntax.specs.SourceView.{plain_call}
use Rattle.homeo_plan_tests.specs.inner.Example.{name, number}
use Rattle.homeo_plan_tests.proofs.Example.{pushed}
use Rattle.homeo_plan_tests.proofs.evaluation.two_sales.Goals as goal

pub returns : goal.returns
unfolding syntax_definitions
returns g c =
    let one = pushed c.new-calls.result c.push.new.self [] c.sale_of_3.result (ap (λ l. l.items) c.new-calls.ensures) (IfOk-at_ok _ c.expect.ensures c.push.ensures.ok) in
    let two = pushed c.push.new.self c.push-2.new.self _ c.sale_of_3-2.result one (IfOk-at_ok _ c.expect-2.ensures c.push-2.ensures.ok) in
    let calls = ap (map plain_call) two ∙ (λ i. c.sale_of_3.ensures i ∷ c.sale_of_3-2.ensures i ∷ []) in
    λ i. record { name = name 3; site = number (pos 0); calls = calls i }
