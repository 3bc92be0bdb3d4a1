-- The plan's base is that from which it was made.
use Rattle.std.proofs.Common.{List, ℤ, sym, subst}
use Rattle.std.proofs.lemmas.Result.{IfOk-at_ok}
use Rattle.homeo_syntax.specs.SourceView.{plain_workload}
use Rattle.homeo_build.specs.Plan.{IsPlanOf}
use Rattle.homeo_tests.proofs.certificates.first_plan.Goals as goal

pub returns : goal.returns
returns g c =
    let is = IfOk-at_ok _ c.expect.ensures c.treaties.ensures.plan in
    subst (λ (b : List ℤ). IsPlanOf (plain_workload c.args.c.now) b c.expect.result) (sym is.base) is
