-- The call has its argument.
use Rattle.std.proofs.Common.{[], pos, ap}
use Rattle.std.proofs.lemmas.Result.{IfOk-at_ok}
use Rattle.homeo_syntax.specs.Key.{definitions as syntax_definitions}
use Rattle.homeo_plan_tests.specs.inner.Example.{name, number}
use Rattle.homeo_plan_tests.proofs.Example.{pushed}
use Rattle.homeo_plan_tests.proofs.evaluation.sale_of_3.Goals as goal

pub returns : goal.returns
unfolding syntax_definitions
returns g c =
    let args = pushed c.new-args.result c.push.new.self [] (number (pos 3)) (ap (λ l. l.items) c.new-args.ensures) (IfOk-at_ok _ c.expect.ensures c.push.ensures.ok) in
    λ i. record { name = name 1; args = args i }
