-- The command is that of the definition.
use Rattle.std.proofs.Common.{pos, map, ap, ◌∙◌}
use Rattle.std.proofs.lemmas.Result.{IfOk-at_ok}
use Rattle.homeo_syntax.specs.Key.{definitions as syntax_definitions}
use Rattle.homeo_syntax.specs.Low as l
use Rattle.homeo_syntax.specs.LowView.{low_commands, plain_lcommand}
use Rattle.homeo_syntax.specs.declared.low.SplitName.TheVariants.{Base, Delta}
use Rattle.homeo_syntax.proofs.LowViews.{low_Literal, low_Read, low_Write, low_Print, low_Seq}
use Rattle.homeo_plan_tests.specs.inner.Object.{sum_of}
use Rattle.homeo_plan_tests.proofs.Lists.{listed}
use Rattle.homeo_plan_tests.proofs.splits.raise_own.Goals as goal

pub returns : goal.returns
unfolding syntax_definitions
returns g c =
    let held = listed c.from_vec.result c.expect.result.items _ c.from_vec.ensures (IfOk-at_ok _ c.expect.ensures c.vec.ensures.items) in
    let raised = c.sum-raised.ensures ∙ (λ i. sum_of (low_Read (Delta 0 0) i) (low_Literal (pos 1) i) (low_Read (Base 0) i)) in
    let write = low_Write (Delta 0 0) c.sum-raised.result ∙ ap (λ e. l.Write (Delta 0 0) e) raised in
    let print = low_Print c.object_sum.result ∙ ap (λ e. l.Print e) c.object_sum.ensures in
    low_Seq c.from_vec.result
    ∙ ap (λ cs. l.Seq (low_commands (map plain_lcommand cs))) held
    ∙ (λ i. l.Seq (l.MoreCommand (write i) (l.MoreCommand (print i) l.NoCommand)))
