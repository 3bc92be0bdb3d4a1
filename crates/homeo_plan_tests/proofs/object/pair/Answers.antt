-- A sum of two terms is made of them.
use Rattle.std.proofs.Common.{map, ap, ◌∙◌}
use Rattle.std.proofs.lemmas.Result.{IfOk-at_ok}
use Rattle.homeo_syntax.specs.Key.{definitions as syntax_definitions}
use Rattle.homeo_syntax.specs.Low as l
use Rattle.homeo_syntax.specs.LowView.{low_exprs, plain_lexpr}
use Rattle.homeo_syntax.proofs.LowViews.{low_Sum}
use Rattle.homeo_plan_tests.proofs.Lists.{listed}
use Rattle.homeo_plan_tests.proofs.object.pair.Goals as goal

pub returns : goal.returns
unfolding syntax_definitions
returns g c =
    let held = listed c.from_vec.result c.expect.result.items _ c.from_vec.ensures (IfOk-at_ok _ c.expect.ensures c.vec.ensures.items) in
    low_Sum c.from_vec.result ∙ ap (λ es. l.Sum (low_exprs (map plain_lexpr es))) held
