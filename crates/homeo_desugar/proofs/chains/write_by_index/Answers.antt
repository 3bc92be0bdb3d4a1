-- The choice between the chain and none.
use Rattle.std.proofs.Common.{◌∙◌}
use Rattle.std.proofs.lemmas.Result.{IfOk-weaker}
use Rattle.homeo_syntax.specs.Low as L
use Rattle.homeo_syntax.proofs.LowViews.{low_Skip}
use Rattle.homeo_desugar.proofs.chains.write_by_index.Goals as goal

pub returns : goal.returns
returns c =
    IfOk-weaker c.choice.result _ _
    (λ r is. is ∙ (λ i. L.If (c.in_ok-test.ensures i) (c.in_ok-chain.ensures i) (low_Skip i)))
    c.choice.ensures
