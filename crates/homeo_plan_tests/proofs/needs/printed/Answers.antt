-- The residual is that of the definition.
use Rattle.std.proofs.Common.{map, ap, ◌∙◌}
use Rattle.std.proofs.lemmas.Result.{IfOk-at_ok}
use Rattle.homeo_syntax.specs.Key.{definitions as syntax_definitions}
use Rattle.homeo_syntax.specs.Low as l
use Rattle.homeo_syntax.specs.LowView.{low_commands, plain_lcommand}
use Rattle.homeo_syntax.proofs.LowViews.{low_Print}
use Rattle.homeo_plan_tests.proofs.Lists.{listed}
use Rattle.homeo_plan_tests.proofs.needs.printed.Goals as goal

pub returns : goal.returns
unfolding syntax_definitions
returns g c =
    let held = listed c.from_vec-commands.result c.expect.result.items _ c.from_vec-commands.ensures (IfOk-at_ok _ c.expect.ensures c.vec.ensures.items) in
    ap (λ cs. low_commands (map plain_lcommand cs)) held
    ∙ (λ i. l.MoreCommand (low_Print c.object_sum.result i) l.NoCommand)
    ∙ ap (λ e. l.MoreCommand (l.Print e) l.NoCommand) c.object_sum.ensures
