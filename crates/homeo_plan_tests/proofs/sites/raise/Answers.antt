-- The command is that of the definition.
use Rattle.std.proofs.Common.{map, ap, ◌∙◌}
use Rattle.std.proofs.lemmas.Result.{IfOk-at_ok}
use Rattle.homeo_syntax.specs.Key.{definitions as syntax_definitions}
use Rattle.homeo_syntax.specs.Low as l
use Rattle.homeo_syntax.specs.LowView.{low_commands, plain_lcommand}
use Rattle.homeo_syntax.specs.declared.low.LExpr.{Read}
use Rattle.homeo_syntax.specs.declared.low.SplitName.TheVariants.{Whole}
use Rattle.homeo_syntax.proofs.LowViews.{low_Read, low_Write, low_Print, low_Seq}
use Rattle.homeo_plan_tests.proofs.Lists.{listed}
use Rattle.homeo_plan_tests.proofs.sites.raise.Goals as goal

pub returns : goal.returns
unfolding syntax_definitions
returns g c =
    let held = listed c.from_vec.result c.expect.result.items _ c.from_vec.ensures (IfOk-at_ok _ c.expect.ensures c.vec.ensures.items) in
    let write = low_Write (Whole 0) c.next-value.result ∙ ap (λ e. l.Write (Whole 0) e) c.next-value.ensures in
    let print = low_Print (Read (Whole 0)) ∙ ap (λ e. l.Print e) (low_Read (Whole 0)) in
    low_Seq c.from_vec.result
    ∙ ap (λ cs. l.Seq (low_commands (map plain_lcommand cs))) held
    ∙ (λ i. l.Seq (l.MoreCommand (write i) (l.MoreCommand (print i) l.NoCommand)))
