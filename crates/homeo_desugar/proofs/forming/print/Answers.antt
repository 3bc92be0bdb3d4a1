-- The print stands behind what its value is lifted to.
use Rattle.std.proofs.lemmas.Result.{IfOk-weaker}
use Rattle.homeo_syntax.specs.Low as L
use Rattle.homeo_syntax.specs.SourceView.{plain_expr}
use Rattle.homeo_syntax.specs.LowView.{plain_lexpr, plain_lcommand}
use Rattle.homeo_syntax.proofs.LowViews.{low_Print}
use Rattle.homeo_meaning.specs.Key.{definitions as meaning_definitions}
use Rattle.homeo_meaning.specs.LForm.{lift}
use Rattle.homeo_context.specs.Contexts.{plain_context}
use Rattle.homeo_desugar.proofs.Forms.{placed_formed}
use Rattle.homeo_desugar.proofs.forming.print.Goals as goal

pub returns : goal.returns
unfolding meaning_definitions
returns c =
    IfOk-weaker c.in_front.result _ _
    (λ r h. placed_formed L.Print c.from-out.result c.lift.new.out c.args.next.now (lift (plain_context c.args.context.now) (plain_expr c.args.value.now)) (plain_lexpr c.in_ok-value.value) _ (plain_lcommand r) c.from-out.ensures.empty c.from-out.ensures.next c.in_ok-value.ensures (low_Print _) h)
    c.in_front.ensures
